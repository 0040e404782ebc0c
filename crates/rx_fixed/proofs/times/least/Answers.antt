use Rattle.std.proofs.Common.{ℕ, ◌≡◌, ◌≤◌, ap, sym, subst, ◌∙◌}
use Rattle.rx_set.specs.Admission.{Serves, least_time, ranked_task}
use Rattle.rx_fixed.proofs.Served.{if_none, if_some}
use Rattle.rx_fixed.proofs.times.least.Goals as goal

pub returns-clause-some : goal.returns-clause-some
returns-clause-some c =
    let system = c.args.set.now in
    let found = c.ranks_are_places.ensures.each system c.args.rank c.requires.rank.0 c.requires.rank.1 in
    let named : ranked_task system c.args.rank ≡ found.0 = c.ranks_are_places.ensures.named system found.0 c.args.rank found.1 found.2 in
    if_some c.least_of.result _
    (λ t e. subst (λ (k : ℕ). Serves system k t × ((u : ℕ) → Serves system k u → t ≤ u)) (sym named)
    (c.least_times_serve.ensures.some system found.0 t found.1 (ap (least_time system) found.2 ∙ sym c.least_of.ensures ∙ e)))

pub returns-clause-none : goal.returns-clause-none
returns-clause-none c =
    let system = c.args.set.now in
    let found = c.ranks_are_places.ensures.each system c.args.rank c.requires.rank.0 c.requires.rank.1 in
    let named : ranked_task system c.args.rank ≡ found.0 = c.ranks_are_places.ensures.named system found.0 c.args.rank found.1 found.2 in
    if_none c.least_of.result _
    (λ e. subst (λ (k : ℕ). (t : ℕ) → ¬ Serves system k t) (sym named)
    (c.least_times_serve.ensures.none system found.0 found.1 (ap (least_time system) found.2 ∙ sym c.least_of.ensures ∙ e)))
