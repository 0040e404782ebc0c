-- What the verdict says.
use Rattle.std.proofs.Common.{ℕ, zero, suc, ◌≡◌, ◌≤◌, ◌<◌, ◌+◌, ◌-◌, ◌*◌, ◌/◌, ◌^◌, ◌==◌, ◌⊎◌, nat_lt, nat_le, if◌then◌else◌, Bool, true, false, List, length, Option, Some, None, inl, inr, refl, sym, ◌∙◌, ap, arith, subst}
use Rattle.std.proofs.Math.Nat.{lt-mul-div-succ, mul-le-mul, le_of_dvd}
use Rattle.std.proofs.Math.Decide.{dec_le}
use Rattle.std.proofs.lemmas.Bool.Decides.{nat_tests}
use Rattle.std.proofs.lemmas.Nat.{le-div}
use Rattle.rx_set.specs.System.{System, task_at}
use Rattle.rx_set.specs.Admission.{total, first_to, or_this, due_need, due_cost, EachSpanFits}
use Rattle.rx_set.proofs.Totals.{total_same, total_zero, total_at}
use Rattle.rx_set.proofs.Firsts.{IsFirst, first_some, first_none}
use Rattle.rx_edf.specs.declared.charged_tasks.ChargedTask.{ChargedTask}
use Rattle.rx_edf.specs.declared.verdicts.EdfVerdict.{EdfVerdict}
use Rattle.rx_edf.specs.declared.verdicts.EdfVerdict.TheVariants.{Yes, No, Wide, Long}
use Rattle.rx_edf.specs.ChargedTasks.{IsChargedTask, AreChargedTasks, charged_task_at, charged_task_of, charged_tasks_of, need_of_task, need_in, points_of_task, points_up_to, cycle_of, work_of, weighted_shortening_of_task, weighted_shortening_of, shortening_of_task, shortening_of}
use Rattle.rx_edf.specs.Verdicts.{fails, told, last_by, last_point, verdict_to, verdict_in, verdict_of}
use Rattle.rx_edf.proofs.Multiples.{cycle_some, cycle_divides}
use Rattle.rx_edf.proofs.Needs.{IsCycle, need_cycle, fails_near, fails_early}
use Rattle.rx_edf.proofs.Costs.{length-charged_tasks, charged_task_here}

-- what is due is what the charged need
pub need_is : (system : System) (t : ℕ) → due_need system t ≡ need_in (charged_tasks_of system) t
need_is system t =
    total_same (due_cost system t) (λ k. need_of_task t (charged_task_at (charged_tasks_of system) k)) (length system.tasks)
    (λ k h. ap (need_of_task t) (sym (charged_task_here system k h)))
    ∙ ap (total (λ k. need_of_task t (charged_task_at (charged_tasks_of system) k))) (sym (length-charged_tasks system))

first_same : (p q : ℕ → Bool) (n : ℕ) → ((k : ℕ) → p k ≡ q k) → first_to p n ≡ first_to q n
first_same p q zero same = refl
first_same p q (suc n) same =
    ap (λ (o : Option ℕ). or_this o (p (suc n)) (suc n)) (first_same p q n same)
    ∙ ap (λ (b : Bool). or_this (first_to q n) b (suc n)) (same (suc n))

fails_same : (system : System) (t : ℕ) → fails system t ≡ nat_lt t (need_in (charged_tasks_of system) t)
fails_same system t = ap (λ (n : ℕ). nat_lt t n) (need_is system t)

-- where few times have to be looked at, they are near
pub points_near : (charged : List ChargedTask) (last : ℕ) → AreChargedTasks charged → points_up_to charged last ≤ 1000000 → last < 2 ^ 40
points_near charged last are few =
    let task : ChargedTask = charged_task_at charged 0 in
    let valid : IsChargedTask task = are.each 0 (omega (arith, are.some)) in
    let some : 0 < task.period = omega (arith, valid.period.0) in
    let quotient : ℕ = (last + task.period - task.deadline) / task.period in
    let one : quotient ≤ 1000000 = omega (arith, few, total_at (λ k. points_of_task last (charged_task_at charged k)) 0 (length charged) (omega (arith, are.some))) in
    let below : last + task.period - task.deadline < task.period * (quotient + 1) = lt-mul-div-succ (last + task.period - task.deadline) some in
    let product : task.period * (quotient + 1) ≤ 1000000 * 1000001 = mul-le-mul {m₂ = 1000001} valid.period.1 (omega (arith, one)) in
    omega (arith, below, product, valid.deadline.1)

-- the answer of the last step
pub told_by : (system : System) (charged : List ChargedTask) (last : ℕ) → charged ≡ charged_tasks_of system → points_up_to charged last ≤ 1000000
    → verdict_to system last ≡ told system (first_to (λ t. nat_lt t (need_in charged t)) last)
told_by system charged last is few =
    let here : points_up_to (charged_tasks_of system) last ≤ 1000000 = subst (λ xs. points_up_to xs last ≤ 1000000) is few in
    let test : nat_lt 1000000 (points_up_to (charged_tasks_of system) last) ≡ false = grind (arith, nat_tests) in
    ap (λ (b : Bool). if b then Long (points_up_to (charged_tasks_of system) last) else told system (first_to (fails system) last)) test
    ∙ ap (told system) (first_same (fails system) (λ t. nat_lt t (need_in (charged_tasks_of system) t)) last (fails_same system))
    ∙ ap (λ xs. told system (first_to (λ t. nat_lt t (need_in xs t)) last)) (sym is)

-- no deadline is short exactly where nothing is weighted
product_some : (x q c : ℕ) → 1 ≤ x → 1 ≤ q → 1 ≤ c → 1 ≤ x * q * c
product_some x q c h i j = let one : 1 ≤ x * q = grind arith in grind arith

pub weighted_short : (charged : List ChargedTask) (cycle : ℕ) → AreChargedTasks charged → IsCycle charged cycle → weighted_shortening_of charged cycle ≡ 0 → shortening_of charged ≡ 0
weighted_short charged cycle are whole none =
    total_zero (λ k. shortening_of_task (charged_task_at charged k)) (length charged)
    (λ k h.
    let task : ChargedTask = charged_task_at charged k in
    let valid : IsChargedTask task = are.each k h in
    let some : 0 < task.period = omega (arith, valid.period.0) in
    let few : task.period ≤ cycle = le_of_dvd (omega (arith, whole.some)) (whole.divided k h) in
    let jobs : 1 ≤ cycle / task.period = le-div 1 cycle task.period some (omega (arith, few)) in
    let one : weighted_shortening_of_task cycle task ≤ 0 = omega (arith, none, total_at (λ j. weighted_shortening_of_task cycle (charged_task_at charged j)) k (length charged) h) in
    elim (dec_le 1 (task.period - task.deadline)) [
      | yes short ↦ absurd (omega (arith, one, product_some (task.period - task.deadline) (cycle / task.period) task.cost short jobs valid.cost.0))
      | no same ↦ omega (arith, same)
    ])

pub short_weighted : (charged : List ChargedTask) (cycle : ℕ) → shortening_of charged ≡ 0 → weighted_shortening_of charged cycle ≡ 0
short_weighted charged cycle none =
    total_zero (λ k. weighted_shortening_of_task cycle (charged_task_at charged k)) (length charged)
    (λ k h.
    let task : ChargedTask = charged_task_at charged k in
    let one : task.period - task.deadline ≡ 0 = omega (arith, none, total_at (λ j. shortening_of_task (charged_task_at charged j)) k (length charged) h) in
    ap (λ (n : ℕ). n * (cycle / task.period) * task.cost) one ∙ nothing (cycle / task.period) task.cost)
  where
    nothing : (q c : ℕ) → 0 * q * c ≡ 0
    nothing q c = grind arith

pub cycle_whole : (charged : List ChargedTask) → AreChargedTasks charged → IsCycle charged (cycle_of charged)
cycle_whole charged are = record {
  some = cycle_some charged (length charged) are (omega arith);
  divided = λ place h. cycle_divides charged (length charged) place are (omega arith) h;
}

-- the answers in a cycle
pub answer_over : (system : System) (charged : List ChargedTask) (cycle : ℕ) → charged ≡ charged_tasks_of system → cycle < work_of charged cycle → verdict_in system cycle ≡ No cycle (work_of charged cycle)
answer_over system charged cycle is over =
    let here : cycle < work_of (charged_tasks_of system) cycle = subst (λ xs. cycle < work_of xs cycle) is over in
    let test : nat_lt cycle (work_of (charged_tasks_of system) cycle) ≡ true = grind (arith, nat_tests) in
    ap
    (λ (b : Bool). if b then No cycle (work_of (charged_tasks_of system) cycle)
    else if shortening_of (charged_tasks_of system) == 0 then Yes else verdict_to system (last_point (charged_tasks_of system)))
    test
    ∙ ap (λ xs. No cycle (work_of xs cycle)) (sym is)

pub answer_within : (system : System) (cycle : ℕ) → work_of (charged_tasks_of system) cycle ≤ cycle
    → verdict_in system cycle ≡ (if shortening_of (charged_tasks_of system) == 0 then Yes else verdict_to system (last_point (charged_tasks_of system)))
answer_within system cycle fits =
    let test : nat_lt cycle (work_of (charged_tasks_of system) cycle) ≡ false = grind (arith, nat_tests) in
    ap
    (λ (b : Bool). if b then No cycle (work_of (charged_tasks_of system) cycle)
    else if shortening_of (charged_tasks_of system) == 0 then Yes else verdict_to system (last_point (charged_tasks_of system)))
    test

pub answer_implicit : (system : System) (charged : List ChargedTask) (cycle : ℕ) → charged ≡ charged_tasks_of system → work_of charged cycle ≤ cycle → shortening_of charged ≡ 0 → verdict_in system cycle ≡ Yes
answer_implicit system charged cycle is fits none =
    let here : shortening_of (charged_tasks_of system) ≡ 0 = ap shortening_of (sym is) ∙ none in
    let test : (shortening_of (charged_tasks_of system) == 0) ≡ true = grind (arith, nat_tests) in
    answer_within system cycle (subst (λ xs. work_of xs cycle ≤ cycle) is fits)
    ∙ ap (λ (b : Bool). if b then Yes else verdict_to system (last_point (charged_tasks_of system))) test

pub answer_near : (system : System) (charged : List ChargedTask) (cycle last : ℕ) → charged ≡ charged_tasks_of system → cycle ≡ cycle_of charged → work_of charged cycle ≤ cycle → 1 ≤ shortening_of charged
    → last ≡ last_by cycle (cycle - work_of charged cycle) (weighted_shortening_of charged cycle) → verdict_in system cycle ≡ verdict_to system last
answer_near system charged cycle last is whole fits short at =
    let here : 1 ≤ shortening_of (charged_tasks_of system) = subst (λ xs. 1 ≤ shortening_of xs) is short in
    let test : (shortening_of (charged_tasks_of system) == 0) ≡ false = grind (arith, nat_tests) in
    let same : last ≡ last_point (charged_tasks_of system) = at ∙ ap (λ n. last_by n (n - work_of charged n) (weighted_shortening_of charged n)) whole ∙ ap last_point is in
    answer_within system cycle (subst (λ xs. work_of xs cycle ≤ cycle) is fits)
    ∙ ap (λ (b : Bool). if b then Yes else verdict_to system (last_point (charged_tasks_of system))) test
    ∙ ap (verdict_to system) (sym same)

-- the steps of the verdict
answer_wide : (system : System) → 2 ^ 96 ≤ cycle_of (charged_tasks_of system) → verdict_of system ≡ Wide
answer_wide system wide =
    let test : nat_le (2 ^ 96) (cycle_of (charged_tasks_of system)) ≡ true = grind (arith, nat_tests) in
    ap (λ (b : Bool). if b then Wide else verdict_in system (cycle_of (charged_tasks_of system))) test

answer_narrow : (system : System) → cycle_of (charged_tasks_of system) < 2 ^ 96 → verdict_of system ≡ verdict_in system (cycle_of (charged_tasks_of system))
answer_narrow system narrow =
    let test : nat_le (2 ^ 96) (cycle_of (charged_tasks_of system)) ≡ false = grind (arith, nat_tests) in
    ap (λ (b : Bool). if b then Wide else verdict_in system (cycle_of (charged_tasks_of system))) test

answer_long : (system : System) (last : ℕ) → 1000000 < points_up_to (charged_tasks_of system) last → verdict_to system last ≡ Long (points_up_to (charged_tasks_of system) last)
answer_long system last many =
    let test : nat_lt 1000000 (points_up_to (charged_tasks_of system) last) ≡ true = grind (arith, nat_tests) in
    ap (λ (b : Bool). if b then Long (points_up_to (charged_tasks_of system) last) else told system (first_to (fails system) last)) test

answer_first : (system : System) (last : ℕ) → points_up_to (charged_tasks_of system) last ≤ 1000000 → verdict_to system last ≡ told system (first_to (fails system) last)
answer_first system last few =
    let test : nat_lt 1000000 (points_up_to (charged_tasks_of system) last) ≡ false = grind (arith, nat_tests) in
    ap (λ (b : Bool). if b then Long (points_up_to (charged_tasks_of system) last) else told system (first_to (fails system) last)) test

-- all answers, each with its cause
pub record IsOver (system : System) : Type 0 where
  pub narrow : cycle_of (charged_tasks_of system) < 2 ^ 96
  pub over : cycle_of (charged_tasks_of system) < work_of (charged_tasks_of system) (cycle_of (charged_tasks_of system))

pub record IsWithin (system : System) : Type 0 where
  pub narrow : cycle_of (charged_tasks_of system) < 2 ^ 96
  pub fits : work_of (charged_tasks_of system) (cycle_of (charged_tasks_of system)) ≤ cycle_of (charged_tasks_of system)

abbrev IsLast : System → ℕ → Type 0
IsLast system t = IsFirst (fails system) (last_point (charged_tasks_of system)) t

by_first : (system : System) (P : EdfVerdict → Type 0) (o : Option ℕ) → first_to (fails system) (last_point (charged_tasks_of system)) ≡ o
    → (((t : ℕ) → 1 ≤ t → t ≤ last_point (charged_tasks_of system) → fails system t ≡ false) → P Yes)
    → ((t : ℕ) → IsLast system t → P (No t (due_need system t)))
    → P (told system o)
by_first system P None e none first = none (first_none (fails system) (last_point (charged_tasks_of system)) e)
by_first system P (Some t) e none first = first t (first_some (fails system) (last_point (charged_tasks_of system)) t e)

by_cause : (system : System) (P : EdfVerdict → Type 0)
    → (2 ^ 96 ≤ cycle_of (charged_tasks_of system) → P Wide)
    → (IsOver system → P (No (cycle_of (charged_tasks_of system)) (work_of (charged_tasks_of system) (cycle_of (charged_tasks_of system)))))
    → (IsWithin system → shortening_of (charged_tasks_of system) ≡ 0 → P Yes)
    → (IsWithin system → 1 ≤ shortening_of (charged_tasks_of system) → 1000000 < points_up_to (charged_tasks_of system) (last_point (charged_tasks_of system)) → P (Long (points_up_to (charged_tasks_of system) (last_point (charged_tasks_of system)))))
    → (IsWithin system → ((t : ℕ) → 1 ≤ t → t ≤ last_point (charged_tasks_of system) → fails system t ≡ false) → P Yes)
    → (IsWithin system → (t : ℕ) → IsLast system t → P (No t (due_need system t)))
    → P (verdict_of system)
by_cause system P wide over implicit long none first = elim (dec_le (2 ^ 96) (cycle_of (charged_tasks_of system))) [
  | yes w ↦ subst P (sym (answer_wide system w)) (wide w)
  | no n ↦
      let narrow : cycle_of (charged_tasks_of system) < 2 ^ 96 = omega (arith, n) in
      elim (dec_le (work_of (charged_tasks_of system) (cycle_of (charged_tasks_of system))) (cycle_of (charged_tasks_of system))) [
        | no o ↦
            let much : cycle_of (charged_tasks_of system) < work_of (charged_tasks_of system) (cycle_of (charged_tasks_of system)) = omega (arith, o) in
            subst P (sym (answer_narrow system narrow ∙ answer_over system (charged_tasks_of system) (cycle_of (charged_tasks_of system)) refl much)) (over (record { narrow = narrow; over = much }))
        | yes fits ↦
            let within : IsWithin system = record { narrow = narrow; fits = fits } in
            elim (dec_le 1 (shortening_of (charged_tasks_of system))) [
              | no s ↦
                  let none_short : shortening_of (charged_tasks_of system) ≡ 0 = omega (arith, s) in
                  subst P (sym (answer_narrow system narrow ∙ answer_implicit system (charged_tasks_of system) (cycle_of (charged_tasks_of system)) refl fits none_short)) (implicit within none_short)
              | yes short ↦
                  let near = answer_narrow system narrow ∙ answer_near system (charged_tasks_of system) (cycle_of (charged_tasks_of system)) (last_point (charged_tasks_of system)) refl refl fits short refl in
                  elim (dec_le (points_up_to (charged_tasks_of system) (last_point (charged_tasks_of system))) 1000000) [
                    | no m ↦
                        let many : 1000000 < points_up_to (charged_tasks_of system) (last_point (charged_tasks_of system)) = omega (arith, m) in
                        subst P (sym (near ∙ answer_long system (last_point (charged_tasks_of system)) many)) (long within short many)
                    | yes few ↦
                        subst P (sym (near ∙ answer_first system (last_point (charged_tasks_of system)) few))
                        (by_first system P (first_to (fails system) (last_point (charged_tasks_of system))) refl (none within) (first within))
                  ]
            ]
      ]
]

-- each time fits, where none of those that have to be looked at fails
not_failing : (system : System) (t : ℕ) → fails system t ≡ false → need_in (charged_tasks_of system) t ≤ t
not_failing system t e = let here : due_need system t ≤ t = grind (arith, nat_tests) in omega (arith, here, need_is system t)

fits_if : (system : System) → ((t : ℕ) → 1 ≤ t → t < need_in (charged_tasks_of system) t → ⊥) → EachSpanFits system
fits_if system none t some = elim (dec_le (need_in (charged_tasks_of system) t) t) [
  | yes fits ↦ omega (arith, fits, need_is system t)
  | no over ↦ absurd (none t some (omega (arith, over)))
]

pub yes_fits : (system : System) → AreChargedTasks (charged_tasks_of system) → verdict_of system ≡ Yes → EachSpanFits system
yes_fits system are = by_cause system (λ v. v ≡ Yes → EachSpanFits system)
    (λ w e. absurd (not_wide e))
    (λ o e. absurd (not_no (cycle_of (charged_tasks_of system)) (work_of (charged_tasks_of system) (cycle_of (charged_tasks_of system))) e))
    (λ within none e. fits_if system (λ t some fail. early_none within none t fail))
    (λ within short many e. absurd (not_long (points_up_to (charged_tasks_of system) (last_point (charged_tasks_of system))) e))
    (λ within none e. fits_if system (λ t some fail. near_none within none t fail))
    (λ within t first e. absurd (not_no t (due_need system t) e))
  where
    not_wide : Wide ≡ Yes → ⊥
    not_wide e = cc

    not_no : (t n : ℕ) → No t n ≡ Yes → ⊥
    not_no t n e = cc

    not_long : (n : ℕ) → Long n ≡ Yes → ⊥
    not_long n e = cc

    early_none : IsWithin system → shortening_of (charged_tasks_of system) ≡ 0 → (t : ℕ) → t < need_in (charged_tasks_of system) t → ⊥
    early_none within none t fail =
        let whole : IsCycle (charged_tasks_of system) (cycle_of (charged_tasks_of system)) = cycle_whole (charged_tasks_of system) are in
        omega (
          arith,
          fails_early (charged_tasks_of system) t (cycle_of (charged_tasks_of system)) are whole within.fits fail,
          short_weighted (charged_tasks_of system) (cycle_of (charged_tasks_of system)) none,
          whole.some,
        )

    near_none : IsWithin system → ((t : ℕ) → 1 ≤ t → t ≤ last_point (charged_tasks_of system) → fails system t ≡ false) → (t : ℕ) → t < need_in (charged_tasks_of system) t → ⊥
    near_none within none t fail =
        let found = fails_near (charged_tasks_of system) (cycle_of (charged_tasks_of system)) t are (cycle_whole (charged_tasks_of system) are) within.fits fail in
        omega (arith, found.3, not_failing system found.0 (none found.0 found.1 found.2))

no_parts : (Q : ℕ → ℕ → Type 0) (a b t n : ℕ) → No a b ≡ No t n → Q a b → Q t n
no_parts Q a b t n e q =
    let first : a ≡ t = cc in
    let second : b ≡ n = cc in
    subst (λ (y : ℕ). Q t y) second (subst (λ (x : ℕ). Q x b) first q)

pub no_fails : (system : System) → AreChargedTasks (charged_tasks_of system) → (t n : ℕ) → verdict_of system ≡ No t n → (1 ≤ t) × (n ≡ due_need system t) × (t < n)
no_fails system are t n = by_cause system (λ v. v ≡ No t n → (1 ≤ t) × (n ≡ due_need system t) × (t < n))
    (λ w e. absurd (not_wide e))
    (λ o e.
    let whole : IsCycle (charged_tasks_of system) (cycle_of (charged_tasks_of system)) = cycle_whole (charged_tasks_of system) are in
    no_parts (λ x y. (1 ≤ x) × (y ≡ due_need system x) × (x < y)) (cycle_of (charged_tasks_of system)) (work_of (charged_tasks_of system) (cycle_of (charged_tasks_of system))) t n e
    (whole.some, sym (need_is system (cycle_of (charged_tasks_of system)) ∙ need_cycle (charged_tasks_of system) (cycle_of (charged_tasks_of system)) are whole), o.over))
    (λ within none e. absurd (not_yes e))
    (λ within short many e. absurd (not_long (points_up_to (charged_tasks_of system) (last_point (charged_tasks_of system))) e))
    (λ within none e. absurd (not_yes e))
    (λ within u first e. no_parts (λ x y. (1 ≤ x) × (y ≡ due_need system x) × (x < y)) u (due_need system u) t n e (first.some, refl, failing u first.passes))
  where
    not_wide : Wide ≡ No t n → ⊥
    not_wide e = cc

    not_yes : Yes ≡ No t n → ⊥
    not_yes e = cc

    not_long : (m : ℕ) → Long m ≡ No t n → ⊥
    not_long m e = cc

    failing : (u : ℕ) → fails system u ≡ true → u < due_need system u
    failing u e = grind (arith, nat_tests)

pub no_least : (system : System) → AreChargedTasks (charged_tasks_of system) → (t n u : ℕ) → verdict_of system ≡ No t n
    → work_of (charged_tasks_of system) (cycle_of (charged_tasks_of system)) ≤ cycle_of (charged_tasks_of system) → 1 ≤ u → u < t → due_need system u ≤ u
no_least system are t n u = by_cause system (λ v. v ≡ No t n → work_of (charged_tasks_of system) (cycle_of (charged_tasks_of system)) ≤ cycle_of (charged_tasks_of system) → 1 ≤ u → u < t → due_need system u ≤ u)
    (λ w e fits some less. absurd (not_wide e))
    (λ o e fits some less. absurd (omega (arith, o.over, fits)))
    (λ within none e fits some less. absurd (not_yes e))
    (λ within short many e fits some less. absurd (not_long (points_up_to (charged_tasks_of system) (last_point (charged_tasks_of system))) e))
    (λ within none e fits some less. absurd (not_yes e))
    (λ within w first e fits some less. passing (first.least u some (no_parts (λ x y. u < x → u < w) w (due_need system w) t n e (λ h. h) less)))
  where
    not_wide : Wide ≡ No t n → ⊥
    not_wide e = cc

    not_yes : Yes ≡ No t n → ⊥
    not_yes e = cc

    not_long : (m : ℕ) → Long m ≡ No t n → ⊥
    not_long m e = cc

    passing : fails system u ≡ false → due_need system u ≤ u
    passing e = grind (arith, nat_tests)

-- where each deadline is its period, none is short
implicit_is : (system : System) → ((task : ℕ) → task < length system.tasks → (task_at system task).deadline ≡ (task_at system task).period) → shortening_of (charged_tasks_of system) ≡ 0
implicit_is system same =
    total_zero (λ k. shortening_of_task (charged_task_at (charged_tasks_of system) k)) (length (charged_tasks_of system))
    (λ k h.
    let known : k < length system.tasks = omega (arith, h, length-charged_tasks system) in
    let here : shortening_of_task (charged_task_at (charged_tasks_of system) k) ≡ shortening_of_task (charged_task_of system k) = ap shortening_of_task (charged_task_here system k known) in
    omega (arith, here, same k known))

pub told_yes_or_no : (system : System) → AreChargedTasks (charged_tasks_of system) → cycle_of (charged_tasks_of system) < 2 ^ 96
    → (cycle_of (charged_tasks_of system) < work_of (charged_tasks_of system) (cycle_of (charged_tasks_of system)))
    ⊎ ((task : ℕ) → task < length system.tasks → (task_at system task).deadline ≡ (task_at system task).period)
    ⊎ (points_up_to (charged_tasks_of system) (last_point (charged_tasks_of system)) ≤ 1000000)
    → (verdict_of system ≡ Yes) ⊎ ((t : ℕ) × (n : ℕ) × (verdict_of system ≡ No t n))
told_yes_or_no system are narrow cause = by_cause system (λ v. (v ≡ Yes) ⊎ ((t : ℕ) × (n : ℕ) × (v ≡ No t n)))
    (λ w. absurd (omega (arith, w, narrow)))
    (λ o. inr (cycle_of (charged_tasks_of system), work_of (charged_tasks_of system) (cycle_of (charged_tasks_of system)), refl))
    (λ within none. inl refl)
    (λ within short many. absurd (not_so within short many cause))
    (λ within none. inl refl)
    (λ within t first. inr (t, due_need system t, refl))
  where
    not_so : IsWithin system → 1 ≤ shortening_of (charged_tasks_of system) → 1000000 < points_up_to (charged_tasks_of system) (last_point (charged_tasks_of system))
        → (cycle_of (charged_tasks_of system) < work_of (charged_tasks_of system) (cycle_of (charged_tasks_of system)))
        ⊎ ((task : ℕ) → task < length system.tasks → (task_at system task).deadline ≡ (task_at system task).period)
        ⊎ (points_up_to (charged_tasks_of system) (last_point (charged_tasks_of system)) ≤ 1000000) → ⊥
    not_so within short many (inl over) = omega (arith, within.fits, over)
    not_so within short many (inr (inl same)) = omega (arith, short, implicit_is system same)
    not_so within short many (inr (inr few)) = omega (arith, many, few)

-- the answer in a cycle that is known
pub answered_in : (system : System) (charged : List ChargedTask) (cycle : ℕ) (verdict : EdfVerdict) → charged ≡ charged_tasks_of system → cycle ≡ cycle_of charged → cycle < 2 ^ 96 → verdict ≡ verdict_in system cycle → verdict_of system ≡ verdict
answered_in system charged cycle verdict is whole narrow e =
    let same : cycle ≡ cycle_of (charged_tasks_of system) = whole ∙ ap cycle_of is in
    answer_narrow system (omega (arith, same, narrow)) ∙ ap (verdict_in system) (sym same) ∙ sym e
