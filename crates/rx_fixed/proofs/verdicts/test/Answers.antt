use Rattle.std.proofs.Common.{ℕ, ◌≡◌, ◌≤◌, ◌+◌, Some, None, length, ap, sym, subst, refl, ◌∙◌, arith}
use Rattle.rx_set.specs.Admission.{Serves, is_none, ranked_task, unserved}
use Rattle.rx_fixed.specs.Verdicts.{IsLeastUnserved, verdict_by}
use Rattle.rx_fixed.proofs.Served.{none_told, not_all, not_both, rank_told, unserved_found, unserved_missing}
use Rattle.rx_fixed.proofs.verdicts.test.Goals as goal

-- the rank that is told
found : (c : goal.Then-is_none) → unserved c.args.set.now ≡ Some (c.loop-served.served + 1)
found c =
    unserved_found c.args.set.now c.loop-served.served
    (omega (arith, c.loop-served-test.true, c.loop-served.auto.served-end, c.len-served-end.ensures.value, c.rows_of-rows.ensures.count))
    c.loop-served.invariant
    (ap is_none (sym c.least_of.ensures) ∙ none_told c.least_of.result c.is_none.result c.is_none.ensures c.if-is_none.true)

pub returns-then-is_none-clause-value : goal.returns-then-is_none-clause-value
returns-then-is_none-clause-value c = sym (ap verdict_by (found c))

pub returns-then-is_none-clause-yes : goal.returns-then-is_none-clause-yes
returns-then-is_none-clause-yes c = (
  λ e. absurd (not_both (c.loop-served.served + 1) e),
  λ each. absurd (not_all c.args.set.now (c.loop-served.served + 1) (found c) ((c.least_times_serve.ensures.test c.args.set.now).1 each)),
)

-- what a rank that is told says
least_unserved : (c : goal.Then-is_none) → IsLeastUnserved c.args.set.now (c.loop-served.served + 1)
least_unserved c =
    let system = c.args.set.now in
    let place : ℕ = c.loop-served.served + 1 in
    let told : unserved system ≡ Some place = found c in
    let known = c.least_times_serve.ensures.known system place told in
    let ranked = c.ranks_are_places.ensures.each system place known.0 known.1 in
    let named : ranked_task system place ≡ ranked.0 = c.ranks_are_places.ensures.named system ranked.0 place ranked.1 ranked.2 in
    record {
      known = known;
      fails = subst (λ (k : ℕ). (t : ℕ) → ¬ Serves system k t) (sym named)
          (c.least_times_serve.ensures.first system ranked.0 ranked.1 (told ∙ ap (λ (k : ℕ). Some k) (sym ranked.2)));
      lower = λ task within below. c.least_times_serve.ensures.before system task place within told below;
    }

pub returns-then-is_none-clause-no : goal.returns-then-is_none-clause-no
returns-then-is_none-clause-no c = λ rank e. subst (IsLeastUnserved c.args.set.now) (rank_told (c.loop-served.served + 1) rank e) (least_unserved c)

none : (c : goal.After-loop-served) → length c.args.set.now.tasks ≤ c.loop-served.served → unserved c.args.set.now ≡ None
none c all = unserved_missing c.args.set.now c.loop-served.served all c.loop-served.invariant

pub returns-clause-value : goal.returns-clause-value
returns-clause-value c =
    sym (ap verdict_by (none c (omega (arith, c.loop-served-test.false, c.loop-served.auto.served-end, c.len-served-end.ensures.value, c.rows_of-rows.ensures.count))))

pub returns-clause-yes : goal.returns-clause-yes
returns-clause-yes c = (
  λ e. (c.least_times_serve.ensures.test c.args.set.now).0
      (none c (omega (arith, c.loop-served-test.false, c.loop-served.auto.served-end, c.len-served-end.ensures.value, c.rows_of-rows.ensures.count))),
  λ each. refl,
)
