use Rattle.std.proofs.Common.{ℕ, ap, sym, ◌∙◌, ◌≡◌, ◌≤◌, arith}
use Rattle.rx_edf.specs.declared.verdicts.EdfVerdict.TheVariants.{No}
use Rattle.rx_edf.specs.ChargedTasks.{points_up_to, need_in}
use Rattle.rx_set.specs.Admission.{due_need}
use Rattle.rx_edf.specs.Verdicts.{told}
use Rattle.rx_edf.proofs.Answered.{points_near, told_by, need_is}
use Rattle.rx_edf.proofs.verdicts.verdict_up_to.Goals as goal

pub first_failure-requires-clause-near : goal.first_failure-requires-clause-near
first_failure-requires-clause-near c = points_near c.args.charged.now c.args.last c.requires.charged (omega (arith, c.points_up_to-points.ensures, c.if-points-gt1000000.false))

pub returns-in-None : goal.returns-in-None
returns-in-None c system is =
    let few : points_up_to c.args.charged.now c.args.last ≤ 1000000 = omega (arith, c.points_up_to-points.ensures, c.if-points-gt1000000.false) in
    sym (told_by system c.args.charged.now c.args.last is few ∙ ap (told system) (sym c.first_failure.ensures ∙ c.in-None.is))

pub returns-in-Some : goal.returns-in-Some
returns-in-Some c system is =
    let few : points_up_to c.args.charged.now c.args.last ≤ 1000000 = omega (arith, c.points_up_to-points.ensures, c.if-points-gt1000000.false) in
    let need : c.need_at.result ≡ due_need system c.in-Some.t =
    c.need_at.ensures ∙ ap (need_in c.args.charged.now) c.from-in-Some.ensures ∙ ap (λ xs. need_in xs c.in-Some.t) is ∙ sym (need_is system c.in-Some.t)
    in
    ap (λ (t : ℕ). No t c.need_at.result) c.from.ensures ∙ ap (No c.in-Some.t) need
    ∙ sym (told_by system c.args.charged.now c.args.last is few ∙ ap (told system) (sym c.first_failure.ensures ∙ c.in-Some.is))
