use Rattle.std.specs.Prelude.{◌≤◌}
use Rattle.rx_bench.proofs.locks.run.Given as goal

abbrev pub invariant-loop-number : goal.invariant-loop-number
invariant-loop-number g l = l.made ≤ l.number
