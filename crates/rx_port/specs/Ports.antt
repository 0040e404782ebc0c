-- What an event leaves of its port.
use Rattle.std.specs.Prelude.{ℕ, ◌≡◌, ◌+◌}
use Rattle.rx_shape.specs.Layout.{Layout}

-- after an event of a seat the port has its layout and its seats as before, and room for one event less. The first three
-- parameters are the members `layout`, `ours` and `room` of the port
pub record KeepsSeats {Port Seat : Type 0} (layout_of : Port → Layout) (is_ours : Port → Seat → Type 0) (has_room : ℕ → Port → Type 0) (old new : Port) (seat : Seat) : Type 0 where
  -- its words stand for the same layout
  pub layout : layout_of new ≡ layout_of old
  -- the seat of the event is still one of the port
  pub ours : is_ours new seat
  -- so is each other seat of it
  pub others : (other : Seat) → is_ours old other → is_ours new other
  -- where one event more had room, so many have room now
  pub room : (n : ℕ) → has_room (n + 1) old → has_room n new
