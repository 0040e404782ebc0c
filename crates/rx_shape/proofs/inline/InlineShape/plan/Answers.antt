use Rattle.std.proofs.Common.{◌≡◌, true, sym, ap, ◌∙◌, subst, [], ◌∷◌}
use Rattle.rx_seq.specs.declared.replies.Reply.{Reply}
use Rattle.rx_seq.specs.Table.{Effect, answers, effect}
use Rattle.rx_seq.specs.Quiet.{is_quiet}
use Rattle.rx_shape.specs.Words.{low_of as low_in}
use Rattle.rx_shape.proofs.InlinePlans.{state_inline, fits_inline, planned_quiet, planned_loud}
use Rattle.rx_shape.proofs.inline.InlineShape.plan.Goals.{then-quiet, else-quiet}
use Rattle.rx_shape.proofs.inline.InlineShape.plan.Goals as goal

pub returns : goal.returns
returns c =
    let home = c.args.self.now.home in let call = c.args.self.now.call in let cell = c.args.self.now.cell in
    let low = c.call_cell-value.result.0 in let reply = c.call_cell-value.result.1 in
    let answer : effect home.part (low_in c.args.root ∷ []) call ≡ answers (low ∷ []) reply = rw c.low_of.ensures.value at (c.call_cell-value.ensures.effect home.part.cap) in
    rw (c.clear.ensures, c.clear-2.ensures)
    (elim c.if-quiet.branch [
      | then-quiet w ↦
          let quiet : is_quiet call reply ≡ true = sym c.quiet.ensures ∙ w.if-quiet.true in
          planned_quiet home cell call c.args.root c.args._own.now.items low reply c.requires.stock answer c.if-quiet.out w.out-is quiet
          (c.quiet_calls_stay.ensures.quiet home.part (low_in c.args.root ∷ []) call (state_inline home cell c.args.root) (fits_inline home cell call c.args.self.now.fits)
          (subst (λ (r : Reply). is_quiet call r ≡ true) (sym (ap (λ (e : Effect). e.reply) answer)) quiet))
      | else-quiet w ↦
          planned_loud home cell call c.args.root c.args._own.now.items low reply c.requires.stock answer c.if-quiet.out c.call_cell-value.ensures.bound
          (w.out-is ∙ rw w.tag_of.ensures.value at w.pack-out.ensures.word) (sym c.quiet.ensures ∙ w.if-quiet.false)
    ])
