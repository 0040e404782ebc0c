use Rattle.std.proofs.Common.{sym, ◌∙◌, subst, arith, []}
use Rattle.rx_seq.specs.declared.calls.Call.{Call}
use Rattle.rx_seq.specs.declared.replies.Reply.TheVariants.{Full}
use Rattle.rx_nodes.specs.Chains.{IsKept}
use Rattle.rx_nodes.proofs.Facts.{none_header, full_kept}
use Rattle.rx_nodes.proofs.Stepping.{lined_none, told_by}
use Rattle.rx_nodes.proofs.steps.after_header.Goals as goal

pub returns-then-head-ge-WORD_LIMIT-clause-told : goal.returns-then-head-ge-WORD_LIMIT-clause-told
returns-then-head-ge-WORD_LIMIT-clause-told c = told_by _ _ _ _ _ ((λ p at. absurd (omega arith)), none_header c.args.home.now c.requires.serves.places c.args.head [] c.if-head-ge-WORD_LIMIT.true)

pub returns-then-spare_of-eq-NO_PLACE-clause-told : goal.returns-then-spare_of-eq-NO_PLACE-clause-told
returns-then-spare_of-eq-NO_PLACE-clause-told c = told_by _ _ _ _ _ (
  lined_none c.args.home.now c.args.call.now c.args.head (let few = c.if-head-ge-WORD_LIMIT.false in omega arith),
  subst (λ (call : Call). IsKept c.args.home.now call c.args.head [] Full) (sym c.in-Put.is) (full_kept c.args.home.now c.requires.serves.places c.args.head [] c.in-Put.v (sym c.spare_of.ensures.value ∙ c.if-spare_of-eq-NO_PLACE.true)),
)
