use Rattle.std.proofs.Common.{◌≡◌}
use Rattle.rx_shape.specs.Places.{run}
use Rattle.rx_port.proofs.starts.own_places.Given as goal

abbrev pub invariant-loop-number : goal.invariant-loop-number
invariant-loop-number l = l.own.items ≡ run l.first l.number
