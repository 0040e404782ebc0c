use Rattle.std.proofs.Common.{ap, sym, ◌∙◌, ◌+◌, ◌++◌, ◌∷◌, [], ℕ, List, length, arith}
use Rattle.rx_shape.proofs.Times.{length-run, run_grows}
use Rattle.rx_shape.proofs.tests.places.Goals as goal

pub push-requires : goal.push-requires
push-requires c =
    let many = ap length c.loop-n.invariant ∙ length-run c.args.first c.loop-n.n in
    let few = c.requires.count in let below = c.loop-n-test.true in (omega arith, omega arith)

pub loop-n-preserved : goal.loop-n-preserved
loop-n-preserved c = c.push.ensures.items ∙ ap (λ (ps : List ℕ). ps ++ (c.args.first + c.loop-n.n) ∷ []) c.loop-n.invariant ∙ sym (run_grows c.args.first c.loop-n.n)
