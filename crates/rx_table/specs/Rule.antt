-- The rule of a shared table, as facts about its words and the views of its seats.
use Rattle.std.specs.Prelude.{ℕ, ◌≡◌, List, [], length, slice_index, Option, Some, None}
use mathlib.Core.Option.{some}
use lib.ListN.{get_elem?}
use Rattle.atomic_table.specs.Table.{State}
use Rattle.rx_seq.specs.declared.calls.Call.TheVariants.{Get}
use Rattle.rx_seq.specs.declared.entries.Entry.{Entry}
use Rattle.rx_shape.specs.Layout.{Layout}
use Rattle.rx_port.specs.declared.views.Attempt.{Attempt}
use Rattle.rx_port.specs.declared.views.Known.{Known}
use Rattle.rx_port.specs.declared.views.View.{View}
use Rattle.rx_port.specs.declared.views.Core.{Core}
use Rattle.rx_port.specs.Lawful.{Lawful}
use Rattle.rx_port.specs.Seats.{newcomer}

-- a seat that makes others is the first one, and the next number is that of the seats that were made
pub record IsMaker (views : List View) (seat next : ℕ) : Type 0 where
  pub first : seat ≡ 0
  pub next_is : next ≡ length views

-- so it is of each seat that makes others
abbrev pub AreMade : List View → Type 0
AreMade views = (seat : ℕ) (view : View) (next : ℕ) → get_elem? views seat ≡ some view → view.next ≡ Some next → IsMaker views seat next

-- what holds between any two steps: words and seats are lawful for some history, word 0 is 0, and the first seat makes the others
pub record Holds {S : Type 0} (layout : Layout) (state : State S View) : Type 0 where
  pub history : List Entry
  pub lawful : Lawful layout state.words state.views history
  pub unused : slice_index state.words 0 ≡ 0
  pub made : AreMade state.views

-- a table as a port sees it, which counts no events
abbrev pub core_of : {S : Type 0} → State S View → Core
core_of state = record { words = state.words; views = state.views; counts = None }

-- the view stands at its number
abbrev pub IsAt : View → Core → Type 0
IsAt view core = get_elem? core.views view.number ≡ some view

-- a seat that has seen and made nothing
abbrev pub knows_nothing : Known
knows_nothing = record { seen = []; mine = []; begins = 0; exchanges = 0; latest = None }

-- the first seat of a table, which makes the others
abbrev pub first_view : Layout → View
first_view layout = newcomer layout (Some knows_nothing) 0 (Some 1)

-- a layout and an attempt that stand where none was picked; an attempt, or this one
abbrev pub no_layout : Layout
no_layout = record { parts = []; seats = 0; first = 0 }

abbrev pub no_attempt : Attempt
no_attempt = record { object = 0; call = Get; expected = 0; reads = []; writes = [] }

abbrev pub attempt_in : Option Attempt → Attempt
attempt_in (Some attempt) = attempt
attempt_in None = no_attempt
