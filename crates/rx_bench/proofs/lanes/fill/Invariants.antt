use Rattle.rx_table.specs.Tables.{IsSeatOf}
use Rattle.rx_bench.proofs.lanes.fill.Given as goal

abbrev pub invariant-loop-number : goal.invariant-loop-number
invariant-loop-number l = IsSeatOf l.shared l.seat
