use Rattle.std.proofs.Common.{ℕ, ◌∙◌, ◌≡◌, ◌⊎◌, subst}
use Rattle.rx_edf.specs.declared.verdicts.EdfVerdict.TheVariants.{Yes, No}
use Rattle.rx_edf.specs.ChargedTasks.{AreChargedTasks, charged_tasks_of}
use Rattle.rx_edf.specs.Verdicts.{verdict_of}
use Rattle.rx_edf.proofs.Answered.{yes_fits, no_fails, no_least, told_yes_or_no, answered_in}
use Rattle.rx_edf.proofs.verdicts.test.Goals as goal

valid : (c : goal.After-verdict_within) → AreChargedTasks (charged_tasks_of c.args.set.now)
valid c = subst AreChargedTasks c.charged_tasks_of-charged.ensures.value c.charged_tasks_of-charged.ensures.valid

value : (c : goal.After-verdict_within) → verdict_of c.args.set.now ≡ c.verdict_within.result
value c =
    let here : c.as_slice.result.now ≡ charged_tasks_of c.args.set.now = c.as_slice.ensures.value ∙ c.charged_tasks_of-charged.ensures.value in
    let there : c.as_slice-in-Some.result.now ≡ charged_tasks_of c.args.set.now = c.as_slice-in-Some.ensures.value ∙ c.charged_tasks_of-charged.ensures.value in
    answered_in c.args.set.now c.as_slice.result.now c.in-Some.cycle c.verdict_within.result here c.in-Some.ensures.some.0 c.in-Some.ensures.some.1 (c.verdict_within.ensures c.args.set.now there)

pub returns-in-Some-clause-yes : goal.returns-in-Some-clause-yes
returns-in-Some-clause-yes c e = yes_fits c.args.set.now (valid c) (value c ∙ e)

pub returns-in-Some-clause-no : goal.returns-in-Some-clause-no
returns-in-Some-clause-no c t need e = no_fails c.args.set.now (valid c) t need (value c ∙ e)

pub returns-in-Some-clause-least : goal.returns-in-Some-clause-least
returns-in-Some-clause-least c t need u e fits some less = no_least c.args.set.now (valid c) t need u (value c ∙ e) fits some less

pub returns-in-Some-clause-answered : goal.returns-in-Some-clause-answered
returns-in-Some-clause-answered c narrow cause =
    subst (λ v. (v ≡ Yes) ⊎ ((t : ℕ) × (need : ℕ) × (v ≡ No t need))) (value c) (told_yes_or_no c.args.set.now (valid c) narrow cause)
