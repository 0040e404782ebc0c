use Rattle.std.specs.Prelude.{◌≤◌}
use Rattle.rx_table.specs.Tables.{IsSeatOf}
use Rattle.rx_bench.specs.Lanes.{HasMade}
use Rattle.rx_bench.proofs.lanes.run.Given as goal

abbrev pub invariant-loop-number : goal.invariant-loop-number
invariant-loop-number l = record {
  ours : IsSeatOf l.shared l.seat;
  made : HasMade l.fn.seat.view l.seat.view l.made l.retries;
  few : l.made ≤ l.number;
}
