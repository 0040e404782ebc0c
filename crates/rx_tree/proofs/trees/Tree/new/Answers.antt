use Rattle.std.proofs.Common.{◌-◌, ◌+◌, ◌*◌, ◌^◌, ◌∙◌, arith, replicate}
use Rattle.rx_tree.specs.declared.trees.TheConstants.{LEAVES}
use Rattle.rx_tree.proofs.Leaves.{tree_alike, keys_alike, leaf_is}
use Rattle.rx_tree.proofs.trees.Tree.new.Goals as goal

pub invariant_of-result : goal.invariant_of-result
invariant_of-result c = tree_alike (2 ^ 64 - 1)

pub returns : goal.returns
returns c leaf inside = leaf_is (replicate (2 * LEAVES) (2 ^ 64 - 1)) leaf ∙ keys_alike (2 ^ 64 - 1) (LEAVES + leaf) (omega (arith, inside))
