-- The last time at which no job of a family is left, and what a window's preemptions are charged at most.
use Rattle.std.proofs.Common.{ℕ, zero, suc, ◌≡◌, ◌≢◌, ◌≤◌, ◌<◌, ◌+◌, ◌==◌, ◌&&◌, ◌⊎◌, inl, inr, nat_lt, not, Bool, true, false, cond, List, [], ◌∷◌, All, filter, map, length, refl, sym, ◌∙◌, ap, arith, subst}
use Rattle.std.proofs.Math.Decide.{dec_le}
use Rattle.std.proofs.lemmas.Bool.{lt-ltb, ltb-true}
use Rattle.std.proofs.lemmas.Bool.Decides.{nat_tests, eqb_tells}
use Rattle.std.proofs.lemmas.List.Elements.{All-head, All-tail, All-weaker}
use Rattle.rx_set.specs.declared.jobs.Job.{Job}
use Rattle.rx_set.specs.System.{System, release, due}
use Rattle.rx_set.specs.Valid.{IsValid, IsJobOf}
use Rattle.rx_set.specs.Admission.{total}
use Rattle.rx_set.proofs.Releases.{number_bound}
use Rattle.rx_set.proofs.Totals.{total_up, total_only}
use Rattle.rx_ledger.specs.declared.events.Event.TheVariants.{Miss}
use Rattle.rx_slots.specs.Schedule.{all_jobs, is_finished, slots}
use Rattle.rx_slots.specs.Events.{misses, is_missed}
use Rattle.rx_slots.specs.Laws.{finished_before, IsPreemption}
use Rattle.rx_slots.specs.Windows.{total_jobs, IsLeft, paid, charge}
use Rattle.rx_slots.proofs.Prefixes.{slots_count}
use Rattle.rx_slots.proofs.Choices.{IsOf, all_known, both, not_true, who_pending}
use Rattle.rx_slots.proofs.Preemptions.{preempting_released}
use Rattle.rx_slots.proofs.JobSums.{jobs_at, jobs_up, jobs_swap, jobs_some}
use Rattle.rx_slots.proofs.EventSums.{at_slot, events_total, HasPreemption, NoPreemption, OnePreemption, preemption_weight}
use Rattle.rx_slots.proofs.WindowLaw.{where_it, where_true, and_true, paid_preemptions}

abbrev IsNoneLeft : System → (Job → Bool) → ℕ → Type 0
IsNoneLeft system family n = (job : Job) → family job ≡ true → IsLeft system n job → ⊥

abbrev IsSomeLeft : System → (Job → Bool) → ℕ → Type 0
IsSomeLeft system family n = (job : Job) × (family job ≡ true) × IsLeft system n job

-- whether a job of the family is left
abbrev is_left : System → (Job → Bool) → ℕ → Job → Bool
is_left system family n job = family job && (nat_lt (release system job) n && not (finished_before system job n))

left_or_not : (system : System) (family : Job → Bool) (n : ℕ) → IsValid system → IsSomeLeft system family n ⊎ IsNoneLeft system family n
left_or_not system family n valid = elim (dec_le 1 (total_jobs system n (λ job. where_it (is_left system family n job) 1))) [
  | yes some ↦ let found = jobs_some system n (λ job. where_it (is_left system family n job) 1) some in inl (by_test found.0 found.1 (is_left system family n found.0) refl found.2)
  | no none ↦ inr (λ job mine left.
      let is : is_left system family n job ≡ true =
      and_true (family job) (nat_lt (release system job) n && not (finished_before system job n)) mine
      (and_true (nat_lt (release system job) n) (not (finished_before system job n)) (lt-ltb (release system job) n left.released) (ap not left.unfinished)) in
      none (omega (
        arith,
        where_true (is_left system family n job) 1 is,
        jobs_at system n (λ other. where_it (is_left system family n other) 1) job left.known (number_bound system job n valid left.known.task (omega (arith, left.released))),
      )))
]
  where
    by_test : (job : Job) → IsJobOf system job → (t : Bool) → is_left system family n job ≡ t → 1 ≤ where_it t 1 → IsSomeLeft system family n
    by_test job known false e some = absurd (omega (arith, some))
    by_test job known true e some =
        let parts = both (family job) (nat_lt (release system job) n && not (finished_before system job n)) e in
        let rest = both (nat_lt (release system job) n) (not (finished_before system job n)) parts.1 in
        (job, parts.0, record { known = known; released = ltb-true (release system job) n rest.0; unfinished = not_true (finished_before system job n) rest.1 })

-- the last time up to n at which none is left
pub record IsLastFree (system : System) (family : Job → Bool) (n : ℕ) : Type 0 where
  pub at : ℕ
  pub until : at ≤ n
  pub none : (job : Job) → family job ≡ true → IsLeft system at job → ⊥
  pub some : (k : ℕ) → at < k → k ≤ n → (job : Job) × (family job ≡ true) × IsLeft system k job

pub last_free : (system : System) (family : Job → Bool) (n : ℕ) → IsValid system → IsLastFree system family n
last_free system family zero valid = record {
  at = 0;
  until = omega arith;
  none = λ job mine left. absurd (omega (arith, left.released));
  some = λ k after until. absurd (omega (arith, after, until));
}
last_free system family (suc n) valid = elim (left_or_not system family (suc n) valid) [
  | inr none ↦ record { at = suc n; until = omega arith; none = none; some = λ k after until. absurd (omega (arith, after, until)) }
  | inl left ↦ earlier left (last_free system family n valid)
]
  where
    earlier : IsSomeLeft system family (suc n) → IsLastFree system family n → IsLastFree system family (suc n)
    earlier left h = record {
      at = h.at;
      until = omega (arith, h.until);
      none = h.none;
      some = λ k after until. elim (dec_le k n) [
        | yes before ↦ h.some k after before
        | no last ↦ let now : suc n ≡ k = omega (arith, until, last) in subst (IsSomeLeft system family) now left
      ];
    }

-- a job that passes a test and is released strictly between a and b
abbrev pub is_between : System → (Job → Bool) → ℕ → ℕ → Job → Bool
is_between system test a b job = test job && (nat_lt a (release system job) && nat_lt (release system job) b)

-- its charge, in the slot in which it is released
abbrev released_at : System → (Job → Bool) → (ℕ → ℕ) → ℕ → ℕ → Job → ℕ → ℕ
released_at system test charges a b job at = where_it (at == release system job) (where_it (is_between system test a b job) (charges job.task))

-- each preemption of a window was made by a job that is released strictly inside it
pub charge_released : (system : System) (family test : Job → Bool) (charges : ℕ → ℕ) (a b : ℕ) → IsValid system
    → ((at : ℕ) (job by : Job) → IsPreemption system at job by → family job ≡ true → family by ≡ true → test by ≡ true)
    → charge system family charges a b ≤ total_jobs system b (λ job. where_it (is_between system test a b job) (charges job.task))
charge_released system family test charges a b valid passes =
    omega (
      arith,
      events_total (paid family charges a b) system b,
      total_up (at_slot (paid family charges a b) system) (λ at. total_jobs system b (λ job. released_at system test charges a b job at)) b (λ at until. slot_released at until (preemption_weight (paid family charges a b) system at (paid_preemptions family charges a b))),
      jobs_swap system b b (released_at system test charges a b),
      jobs_up system b (λ job. total (released_at system test charges a b job) b) (λ job. where_it (is_between system test a b job) (charges job.task)) (λ job known. once job),
    )
  where
    once : (job : Job) → total (released_at system test charges a b job) b ≤ where_it (is_between system test a b job) (charges job.task)
    once job = omega (arith, total_only (released_at system test charges a b job) (release system job) b (λ k h apart. other k apart), here)
      where
        other : (k : ℕ) → k ≢ release system job → released_at system test charges a b job k ≡ 0
        other k apart = elim (eqb_tells k (release system job)) [
          | inl same ↦ absurd (apart same.1)
          | inr differs ↦ ap (λ (t : Bool). where_it t (where_it (is_between system test a b job) (charges job.task))) differs.0
        ]

        here : released_at system test charges a b job (release system job) ≤ where_it (is_between system test a b job) (charges job.task)
        here = by_test (release system job == release system job)
          where
            by_test : (t : Bool) → where_it t (where_it (is_between system test a b job) (charges job.task)) ≤ where_it (is_between system test a b job) (charges job.task)
            by_test true = omega arith
            by_test false = omega arith

    by_value : (at : ℕ) (job by : Job) → at < b → IsPreemption system at job by → (t : Bool) → (nat_lt a at && (nat_lt at b && (family job && family by))) ≡ t
        → where_it t (charges by.task) ≤ total_jobs system b (λ other. released_at system test charges a b other at)
    by_value at job by until h false e = omega arith
    by_value at job by until h true e =
        let parts = both (nat_lt a at) (nat_lt at b && (family job && family by)) e in
        let rest = both (nat_lt at b) (family job && family by) parts.1 in
        let both_in = both (family job) (family by) rest.1 in
        let released : release system by ≡ at = preempting_released system at job by valid h in
        let known : IsJobOf system by = (who_pending system at by h.has).known in
        let its_time : (at == release system by) ≡ true = time_is at (release system by) (sym released) in
        let between : is_between system test a b by ≡ true =
        and_true (test by) (nat_lt a (release system by) && nat_lt (release system by) b) (passes at job by h both_in.0 both_in.1)
        (and_true (nat_lt a (release system by)) (nat_lt (release system by) b) (ap (nat_lt a) released ∙ parts.0) (ap (λ (k : ℕ). nat_lt k b) released ∙ rest.0)) in
        omega (
          arith,
          where_true (at == release system by) (where_it (is_between system test a b by) (charges by.task)) its_time,
          where_true (is_between system test a b by) (charges by.task) between,
          jobs_at system b (λ other. released_at system test charges a b other at) by known (number_bound system by b valid known.task (omega (arith, released, until))),
        )
      where
        time_is : (x y : ℕ) → x ≡ y → (x == y) ≡ true
        time_is x y same = grind (arith, nat_tests)

    slot_released : (at : ℕ) → at < b → HasPreemption (paid family charges a b) system at → at_slot (paid family charges a b) system at ≤ total_jobs system b (λ job. released_at system test charges a b job at)
    slot_released at until (NoPreemption none) = omega (arith, none)
    slot_released at until (OnePreemption job by is e) = omega (arith, e, by_value at job by until is (nat_lt a at && (nat_lt at b && (family job && family by))) refl)

-- where each job that is due now is finished, no miss is told
none_pass : (p : Job → Bool) (jobs : List Job) → All (λ job. p job ≡ false) jobs → filter p jobs ≡ []
none_pass p [] h = refl
none_pass p (job ∷ jobs) h =
    ap (λ (t : Bool). cond t (job ∷ filter p jobs) (filter p jobs)) (All-head (λ j. p j ≡ false) job jobs h) ∙ none_pass p jobs (All-tail (λ j. p j ≡ false) job jobs h)

pub no_miss : (system : System) (n : ℕ) → ((job : Job) → IsJobOf system job → due system job ≡ n → finished_before system job n ≡ false → ⊥) → misses system (slots system n) ≡ []
no_miss system n none =
    ap (map (Miss (length (slots system n))))
    (none_pass (is_missed system (slots system n)) (all_jobs system (length (slots system n)))
    (All-weaker (IsOf (length system.tasks)) (λ job. is_missed system (slots system n) job ≡ false) (λ job known. not_missed job known (is_missed system (slots system n) job) refl)
    (all_jobs system (length (slots system n))) (all_known (length system.tasks) (length (slots system n) + 1) (length system.tasks) (omega arith))))
  where
    same_time : (x y : ℕ) → (x == y) ≡ true → x ≡ y
    same_time x y e = grind (arith, nat_tests)

    not_missed : (job : Job) → IsOf (length system.tasks) job → (t : Bool) → is_missed system (slots system n) job ≡ t → is_missed system (slots system n) job ≡ false
    not_missed job known false e = e
    not_missed job known true e =
        let parts = both (due system job == length (slots system n)) (not (is_finished system (slots system n) job)) e in
        absurd (none job (record { task = known.0; number = known.1 }) (same_time (due system job) (length (slots system n)) parts.0 ∙ slots_count system n)
        (not_true (is_finished system (slots system n) job) parts.1))
