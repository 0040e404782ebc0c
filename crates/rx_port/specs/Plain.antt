-- A bank's seats as plain data, and as contracts see them.
use Rattle.std.specs.Prelude.{ℕ, ◌≡◌, ◌+◌, ◌<◌, ◌≤◌, ◌^◌, true, List, [], length, map, slice_index_or, Vec, Option, Some, None, IfSome, option_map}
use Rattle.std.proofs.Common.{sym, subst}
use Rattle.std.proofs.Math.Nat.{le_trans, le-add_right, add_assoc}
use Rattle.std.specs.declared.alloc.Global.{Global}
use mathlib.Core.Option.{some}
use lib.ListN.{get_elem?}
use Rattle.rx_seq.specs.declared.entries.Entry.{Entry}
use Rattle.rx_shape.specs.declared.plans.Taken.{Taken}
use Rattle.rx_shape.specs.declared.plans.Write.{Write}
use Rattle.rx_shape.specs.Layout.{Layout, IsLayout}
use Rattle.rx_port.specs.declared.views.Counts.{Counts}
use Rattle.rx_port.specs.declared.views.Attempt.{Attempt}
use Rattle.rx_port.specs.declared.views.View.{View}
use Rattle.rx_port.specs.declared.views.Core.{Core}
use Rattle.rx_port.specs.declared.seat_states.Opened.{Opened}
use Rattle.rx_port.specs.declared.seat_states.SeatState.{SeatState}
use Rattle.rx_port.specs.Lawful.{Lawful}
use Rattle.rx_port.specs.Events.{OwnsWell}

-- the own places of a seat, and its open attempt with the words that it read and wrote
abbrev pub lists : List (Vec ℕ Global) → List (List ℕ)
lists own = map (λ (places : Vec ℕ Global). places.items) own

abbrev pub attempt_of : List Taken → List Write → Opened → Attempt
attempt_of reads writes opened = record { object = opened.object; call = opened.call; expected = opened.expected; reads = reads; writes = writes }

-- a seat, which keeps no histories
abbrev pub view_of : SeatState → View
view_of seat = record { number = seat.number; next = None; live = true; attempt = option_map (attempt_of seat.reads.items seat.writes.items) seat.open; own = lists seat.own.items; joined = []; known = None }

-- the words, seats and counts of a bank
abbrev pub plain_core : List ℕ → List SeatState → Counts → Core
plain_core words seats counts = record { words = words; views = map view_of seats; counts = Some counts }

-- a seat that stands where there is none, and the seat of a number
abbrev pub nobody : View
nobody = record { number = 0; next = None; live = true; attempt = None; own = []; joined = []; known = None }

abbrev pub view_at : Core → ℕ → View
view_at core seat = slice_index_or core.views seat nobody

-- what clauses see of a bank: what its words stand for, and its words, seats and counts
pub record Whole : Type 0 where
  pub layout : Layout
  pub core : Core

abbrev pub whole_of : Layout → List ℕ → List SeatState → Counts → Whole
whole_of layout words seats counts = record { layout = layout; core = plain_core words seats counts }

-- a seat that keeps no histories, is joined into no other, and has none joined into it
pub record IsPlainView (view : View) : Type 0 where
  pub known : view.known ≡ None
  pub live : view.live ≡ true
  pub joined : view.joined ≡ []

-- each seat is so
abbrev pub IsPlain : Core → Type 0
IsPlain core = (seat : ℕ) (view : View) → get_elem? core.views seat ≡ some view → IsPlainView view

-- a bank has all seats of its layout, none of which keeps histories or was joined, and is lawful for some history
pub record IsBank (whole : Whole) : Type 0 where
  pub limits : IsLayout whole.layout
  pub many : length whole.core.views ≡ whole.layout.seats
  pub plain : IsPlain whole.core
  pub history : List Entry
  pub lawful : Lawful whole.layout whole.core.words whole.core.views history

-- a seat of a bank, none of whose seats keeps histories: it has the number that it is named by, and owns different places
-- of each object's range
pub record IsSeatOf (whole : Whole) (seat : ℕ) : Type 0 where
  pub there : seat < length whole.core.views
  pub plain : IsPlain whole.core
  pub number : (view_at whole.core seat).number ≡ seat
  pub owns : OwnsWell whole.layout (view_at whole.core seat)

-- an event of a bank: for each history that the bank stood for it stands for the one that the event makes of it, the
-- moved seat is as told, and all others are as before
pub record Moves (layout : Layout) (old now : Core) (seat : ℕ) (after : View) (made_of : List Entry → List Entry) : Type 0 where
  pub lawful : (history : List Entry) → Lawful layout old.words old.views history → Lawful layout now.words now.views (made_of history)
  pub many : length now.views ≡ length old.views
  pub moved : view_at now seat ≡ after
  pub others : (other : ℕ) → (other ≡ seat → ⊥) → view_at now other ≡ view_at old other

-- so many more events have room in the counts, which are then at most 2^63
abbrev pub HasRoomIn : ℕ → Counts → Type 0
HasRoomIn n counts = (counts.loads + n ≤ 2 ^ 63) × (counts.stores + n ≤ 2 ^ 63) × (counts.exchanges + n ≤ 2 ^ 63)

abbrev pub HasRoom : ℕ → Core → Type 0
HasRoom n core = IfSome core.counts (HasRoomIn n)

-- where more events have room, fewer have
less : (n most count : ℕ) → count + (n + 1) ≤ most → count + n ≤ most
less n most count h = le_trans (le-add_right (count + n) 1) (subst (λ (m : ℕ). m ≤ most) (sym (add_assoc count n 1)) h)

less_counts : (n : ℕ) (counts : Option Counts) → IfSome counts (HasRoomIn (n + 1)) → IfSome counts (HasRoomIn n)
less_counts n None h = tt
less_counts n (Some counts) h = (less n (2 ^ 63) counts.loads h.0, less n (2 ^ 63) counts.stores h.1, less n (2 ^ 63) counts.exchanges h.2)

pub less_room : (n : ℕ) (core : Core) → HasRoom (n + 1) core → HasRoom n core
less_room n core h = less_counts n core.counts h
