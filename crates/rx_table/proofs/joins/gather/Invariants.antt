use Rattle.std.proofs.Common.{◌≡◌, ◌++◌}
use Rattle.rx_table.specs.Tables.{IsSeatOf, carried}
use Rattle.rx_table.specs.Seats.{carries}
use Rattle.rx_table.proofs.Gathering.{EachOf}
use Rattle.rx_table.proofs.joins.gather.Given as goal

abbrev pub invariant-loop-seat : goal.invariant-loop-seat
invariant-loop-seat l = record {
  last : IsSeatOf (record { layout = l.words.key; table = l.words.table_id }) l.last;
  each : EachOf (record { layout = l.words.key; table = l.words.table_id }) l.seats.items;
  sum : carried l.seats.items ++ carries l.last.view ≡ carried l.fn.seats.items;
}

abbrev pub decreases-loop-seat : goal.decreases-loop-seat
decreases-loop-seat l = goal.left-loop-seat l
