use Rattle.std.proofs.Common.{◌≤◌, ◌+◌, ◌-◌}
use Rattle.rx_fixed.proofs.Leasts.{NoneBelow}
use Rattle.rx_fixed.proofs.times.least_of.Given as goal

abbrev pub invariant-loop-t : goal.invariant-loop-t
invariant-loop-t l = (1 ≤ l.t) × NoneBelow l.set l.rank l.t

abbrev pub decreases-loop-t : goal.decreases-loop-t
decreases-loop-t l = l.deadline + 1 - l.t
