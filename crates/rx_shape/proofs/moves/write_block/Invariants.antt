use Rattle.std.proofs.Common.{◌≡◌, ◌∷◌, length, take}
use Rattle.rx_shape.specs.Moves.{number_writes}
use Rattle.rx_shape.proofs.moves.write_block.Given as goal

abbrev pub invariant-loop-number : goal.invariant-loop-number
invariant-loop-number l = l.writes.items ≡ record { own = 0; value = length l.state } ∷ number_writes 1 (take l.number l.state)
