-- Tables and seats as contracts see them.
use Rattle.std.specs.Prelude.{ℕ, zero, suc, ◌≡◌, List, [], ◌∷◌, ◌++◌, length, Option, Some, None}
use mathlib.Core.Option.{some}
use lib.ListN.{get_elem?}
use Rattle.atomic_table.specs.Seated.{TableId}
use Rattle.rx_shape.specs.Layout.{Layout}
use Rattle.rx_port.specs.declared.views.View.{View}
use Rattle.rx_port.specs.Events.{OwnsWell}
use Rattle.rx_port.specs.declared.views.Joined.{Joined}
use Rattle.rx_port.specs.Seats.{newcomer}
use Rattle.rx_table.specs.Rule.{knows_nothing}
use Rattle.rx_table.specs.Seats.{Keeps, carries}

-- a table as clauses see it: its layout, and which table it is
pub record SharedTable : Type 0 where
  pub layout : Layout
  pub table : TableId

-- a seat as clauses see it: what it has open, owns and knows, and which table it is of
pub record SeatView : Type 0 where
  pub view : View
  pub table : TableId

-- a seat of the table: it owns different places of each object's range, and keeps histories
pub record IsSeatOf (shared : SharedTable) (seat : SeatView) : Type 0 where
  pub same : seat.table ≡ shared.table
  pub owns : OwnsWell shared.layout seat.view
  pub keeps : Keeps seat.view

-- all seats of the table, in the order of their numbers
pub record AreSeats (shared : SharedTable) (seats : List SeatView) : Type 0 where
  pub many : length seats ≡ shared.layout.seats
  pub each : (number : ℕ) (seat : SeatView) → get_elem? seats number ≡ some seat → IsSeatOf shared seat × (seat.view.number ≡ number)

-- the seats of the start: the first one makes the next; each has the places of the start of its number, nothing open,
-- and has seen and made nothing; some seats are these
abbrev pub next_at : ℕ → ℕ → Option ℕ
next_at next zero = Some next
next_at next (suc number) = None

abbrev pub new_seat : SharedTable → ℕ → ℕ → SeatView
new_seat shared next number = record { view = newcomer shared.layout (Some knows_nothing) number (next_at next number); table = shared.table }

abbrev pub AreNew : SharedTable → List SeatView → Type 0
AreNew shared seats = (number : ℕ) (seat : SeatView) → get_elem? seats number ≡ some seat → seat ≡ new_seat shared (length seats) number

-- what is left of these seats where they are joined
abbrev pub carried : List SeatView → List Joined
carried [] = []
carried (seat ∷ seats) = carries seat.view ++ carried seats
