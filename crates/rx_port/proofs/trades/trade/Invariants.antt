use Rattle.std.proofs.Common.{◌≡◌, length, drop}
use Rattle.rx_shape.specs.Asks.{EachBelow}
use Rattle.rx_shape.specs.Versions.{traded}
use Rattle.rx_port.proofs.trades.trade.Given as goal

abbrev pub invariant-loop-pair : goal.invariant-loop-pair
invariant-loop-pair l = record {
  below : EachBelow (length l.own.items) (drop l.pair-index l.pairs);
  same : traded l.own.items (drop l.pair-index l.pairs) ≡ traded l.initial.own.items l.pairs;
}
