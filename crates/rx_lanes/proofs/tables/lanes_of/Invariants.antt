use Rattle.std.proofs.Common.{◌≡◌, ◌++◌, length, map, All}
use Rattle.rx_lanes.specs.Lanes.{IsNew, number_of, seat_of}
use Rattle.rx_set.specs.System.{numbers}
use Rattle.rx_lanes.proofs.tables.lanes_of.Given as goal

abbrev pub invariant-loop-alloc : goal.invariant-loop-alloc
invariant-loop-alloc l = record {
  seats : map seat_of l.lanes.items ++ l.seats.items ≡ l.fn.seats.items;
  numbers : map number_of l.lanes.items ≡ numbers (length l.lanes.items);
  new : All (IsNew l.set l.jobs l.workers) l.lanes.items;
}

abbrev pub decreases-loop-alloc : goal.decreases-loop-alloc
decreases-loop-alloc l = length l.seats.items
