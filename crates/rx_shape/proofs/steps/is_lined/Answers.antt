use Rattle.std.proofs.Common.{◌≡◌, ◌-◌, ◌∙◌, length, sym, ap, arith}
use Rattle.std.specs.Prelude.{slice_index}
use Rattle.std.proofs.lemmas.Bool.{eqb-false, leb-false}
use Rattle.rx_shape.proofs.Walked.{none_great, none_short}
use Rattle.rx_shape.proofs.steps.is_lined.Goals as goal

pub returns-then-words-eq1-clause-no : goal.returns-then-words-eq1-clause-no
returns-then-words-eq1-clause-no c refused =
    let one = c.if-words-eq1.true in
    let other = eqb-false _ _ refused in
    none_short c.args.part c.args.words.now c.requires.form c.requires.some
    (λ e. other (ap (slice_index c.args.words.now) (let z : length c.args.words.now - 1 ≡ 0 = omega arith in z) ∙ e ∙ sym c.from.ensures))

pub returns-clause-no : goal.returns-clause-no
returns-clause-no c refused =
    let more = c.if-words-eq1.false in let some = c.requires.some in let great = leb-false _ _ refused in
    none_great c.args.part c.args.words.now c.requires.form (λ _. c.requires.within (omega arith)) (omega arith) (omega arith)
