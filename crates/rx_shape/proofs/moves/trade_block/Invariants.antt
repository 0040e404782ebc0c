use Rattle.std.proofs.Common.{◌≡◌}
use Rattle.rx_shape.specs.Moves.{block_pairs}
use Rattle.rx_shape.proofs.moves.trade_block.Given as goal

abbrev pub invariant-loop-own : goal.invariant-loop-own
invariant-loop-own l = l.pairs.items ≡ block_pairs 0 l.place l.own
