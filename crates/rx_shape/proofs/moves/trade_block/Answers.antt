use Rattle.std.proofs.Common.{ℕ, ◌≡◌, ap, sym, ◌∙◌, ◌+◌, ◌++◌, ◌∷◌, [], List, length, arith}
use Rattle.rx_shape.specs.declared.plans.Pair.{Pair}
use Rattle.rx_shape.specs.Moves.{block_pairs}
use Rattle.rx_shape.proofs.Moving.{pairs_more, length-pairs}
use Rattle.rx_shape.proofs.moves.trade_block.Goals as goal

pub push-requires : goal.push-requires
push-requires c =
    let many = ap length c.loop-own.invariant ∙ length-pairs 0 c.args.place c.loop-own.own in
    let few = c.requires.count in let below = c.loop-own-test.true in (omega arith, omega arith)

pub loop-own-preserved : goal.loop-own-preserved
loop-own-preserved c =
    c.push.ensures.items ∙ ap (λ (ps : List Pair). ps ++ record { own = c.loop-own.own; place = c.args.place + c.loop-own.own } ∷ []) c.loop-own.invariant
    ∙ ap (λ (n : ℕ). block_pairs 0 c.args.place c.loop-own.own ++ record { own = n; place = c.args.place + c.loop-own.own } ∷ []) (let e : c.loop-own.own ≡ 0 + c.loop-own.own = omega arith in e)
    ∙ sym (pairs_more 0 c.args.place c.loop-own.own)
