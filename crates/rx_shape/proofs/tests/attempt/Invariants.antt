use Rattle.std.proofs.Common.{◌≡◌}
use Rattle.rx_shape.proofs.tests.attempt.Given as goal

abbrev pub invariant-loop-n : goal.invariant-loop-n
invariant-loop-n l = l.shape.home ≡ l.initial.shape.home
