use Rattle.std.specs.Prelude.{◌≡◌, ◌+◌, length}
use Rattle.rx_table.proofs.Gathering.{EachOf}
use Rattle.rx_bench.specs.Lanes.{AreLanes}
use Rattle.rx_bench.proofs.lanes.lanes_of.Given as goal

abbrev pub invariant-loop-seat : goal.invariant-loop-seat
invariant-loop-seat l = record {
  seats : EachOf l.shared l.seats.items;
  lanes : AreLanes l.shared l.lanes.items;
  many : length l.lanes.items + length l.seats.items ≡ length l.fn.seats.items;
}

abbrev pub decreases-loop-seat : goal.decreases-loop-seat
decreases-loop-seat l = length l.seats.items
