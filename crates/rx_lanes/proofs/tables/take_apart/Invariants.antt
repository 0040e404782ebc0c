use Rattle.std.proofs.Common.{◌≡◌, ◌≤◌, ◌+◌, ◌++◌, length, map, vec_capacity}
use Rattle.rx_lanes.specs.Lanes.{answers_of, seat_of}
use Rattle.rx_lanes.proofs.tables.take_apart.Given as goal

abbrev pub invariant-loop-lanes : goal.invariant-loop-lanes
invariant-loop-lanes l = record {
  seats : l.seats.items ++ map seat_of l.lanes.items ≡ map seat_of l.fn.lanes.items;
  answers : l.answers.items ++ map answers_of l.lanes.items ≡ map answers_of l.fn.lanes.items;
  room : length l.seats.items + length l.lanes.items ≤ vec_capacity l.seats;
  more_room : length l.answers.items + length l.lanes.items ≤ vec_capacity l.answers;
}

abbrev pub decreases-loop-lanes : goal.decreases-loop-lanes
decreases-loop-lanes l = length l.lanes.items
