use Rattle.std.proofs.Common.{◌≡◌, ◌+◌}
use Rattle.rx_shape.specs.Places.{read_run}
use Rattle.rx_shape.proofs.layouts.read_block.Given as goal

abbrev pub invariant-loop-number : goal.invariant-loop-number
invariant-loop-number l = l.state.items ≡ read_run l.words (l.first + 1) l.number
