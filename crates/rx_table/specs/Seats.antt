-- Seats that are made and joined.
use Rattle.std.specs.Prelude.{ℕ, ◌≡◌, ◌+◌, ◌<◌, false, List, [], ◌∷◌, ◌++◌, Option, Some, None}
use Rattle.rx_seq.specs.declared.entries.Entry.{Entry}
use Rattle.rx_seq.specs.Legal.{entries_of}
use Rattle.rx_shape.specs.Layout.{Layout}
use Rattle.rx_port.specs.declared.views.Known.{Known}
use Rattle.rx_port.specs.declared.views.Joined.{Joined}
use Rattle.rx_port.specs.declared.views.View.{View}
use Rattle.rx_port.specs.Seats.{newcomer}
use Rattle.rx_table.specs.Rule.{knows_nothing}

-- a seat that keeps histories: its own entries are those of its number among the seen ones
pub record Keeps (view : View) : Type 0 where
  pub known : Known
  pub is : view.known ≡ Some known
  pub all_mine : known.mine ≡ entries_of view.number known.seen

-- the number of the seat that a seat makes next
abbrev pub next_of : Option ℕ → ℕ
next_of None = 0
next_of (Some next) = next

-- making: the maker knows the number after the next one, and the new seat has the next number
abbrev pub maker : View → View
maker view = record view { next = Some (next_of view.next + 1) }

abbrev pub made : Layout → View → View
made layout view = newcomer layout (Some knows_nothing) (next_of view.next) None

-- the seat may make one more
pub record CanMake (layout : Layout) (view : View) : Type 0 where
  pub number : ℕ
  pub is : view.next ≡ Some number
  pub room : number < layout.seats

-- what a seat has seen, and its own entries
abbrev pub seen_of : Option Known → List Entry
seen_of None = []
seen_of (Some known) = known.seen

abbrev pub mine_of : Option Known → List Entry
mine_of None = []
mine_of (Some known) = known.mine

-- joining: what is left of a seat that is joined into another, its number, what it has seen, its entries and its
-- places; the same with those that were joined into it before; the seat that takes it in and keeps all that; a seat
-- that was joined
abbrev pub leaves : View → Joined
leaves view = record { number = view.number; seen = seen_of view.known; mine = mine_of view.known; own = view.own }

abbrev pub carries : View → List Joined
carries view = leaves view ∷ view.joined

abbrev pub taker : View → View → View
taker view other = record view { joined = view.joined ++ carries other }

abbrev pub spent_view : View
spent_view = record { number = 0; next = None; live = false; attempt = None; own = []; joined = []; known = None }
