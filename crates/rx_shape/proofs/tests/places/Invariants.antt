use Rattle.std.proofs.Common.{◌≡◌}
use Rattle.rx_shape.specs.Places.{run}
use Rattle.rx_shape.proofs.tests.places.Given as goal

abbrev pub invariant-loop-n : goal.invariant-loop-n
invariant-loop-n l = l.places.items ≡ run l.first l.n
