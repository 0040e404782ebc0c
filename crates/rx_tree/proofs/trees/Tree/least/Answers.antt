use Rattle.std.proofs.Common.{subst}
use Rattle.rx_tree.specs.Trees.{IsLeast, key_at}
use Rattle.rx_tree.proofs.Leaves.{root_is_least}
use Rattle.rx_tree.proofs.trees.Tree.least.Goals as goal

pub returns : goal.returns
returns c = subst (λ keys. IsLeast keys (key_at c.self.inside.places 1)) c.self.view_is (root_is_least c.self.inside.places c.self.invariant)
