use Rattle.std.proofs.Common.{◌-◌, ◌+◌}
use Rattle.rx_tree.specs.Trees.{IsLeast}
use Rattle.rx_edf.proofs.Steps.{IsWalk}
use Rattle.rx_edf.proofs.walks.first_failure.Given as goal

abbrev pub invariant-loop-key : goal.invariant-loop-key
invariant-loop-key l = record {
  walk : IsWalk l.charged l.tree l.need l.last;
  least : IsLeast l.tree l.key;
}

abbrev pub decreases-loop-key : goal.decreases-loop-key
decreases-loop-key l = l.last + 1 - l.need
