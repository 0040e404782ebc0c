-- What the least times of the ranks say of the test for fixed priorities.
use Rattle.std.proofs.Common.{ℕ, ◌≡◌, ◌≤◌, ◌<◌, ◌↔◌, nat_le, Bool, true, false, refl, sym, ◌∙◌, ap, arith, subst, length, Option, Some, None}
use Rattle.std.proofs.Math.Decide.{dec_le}
use Rattle.std.proofs.lemmas.Bool.{false≢true, le-leb}
use Rattle.std.proofs.lemmas.Bool.Decides.{nat_tests}
use Rattle.rx_set.specs.System.{System, task_at, rank}
use Rattle.rx_set.specs.Admission.{need, Serves, EachIsServed, first_to, is_none, least_time, ranked_task, unserved}
use Rattle.rx_set.proofs.Ranks.{rank_bound, rank_found}
use Rattle.rx_set.proofs.Firsts.{IsFirst, first_some, first_none, first_missing, ranked_is}

-- whether t ticks fit, where the task of the rank is known
abbrev fits_in : System → ℕ → ℕ → Bool
fits_in system place t = nat_le (need system place t) t

deadline_is : (system : System) (task : ℕ) → task < length system.tasks
    → (task_at system (ranked_task system (rank system task))).deadline ≡ (task_at system task).deadline
deadline_is system task known = ap (λ (k : ℕ). (task_at system k).deadline) (ranked_is system task (rank system task) known refl)

to_deadline : (system : System) (task : ℕ) → task < length system.tasks → least_time system (rank system task) ≡ first_to (fits_in system (rank system task)) (task_at system task).deadline
to_deadline system task known = ap (first_to (fits_in system (rank system task))) (deadline_is system task known)

fits_is : (system : System) (task t : ℕ) → need system (rank system task) t ≤ t → fits_in system (rank system task) t ≡ true
fits_is system task t h = le-leb (need system (rank system task) t) t h

is_fits : (a t : ℕ) → nat_le a t ≡ true → a ≤ t
is_fits a t h = grind (arith, nat_tests)

pub least_some : (system : System) (task t : ℕ) → task < length system.tasks → least_time system (rank system task) ≡ Some t → Serves system task t × ((u : ℕ) → Serves system task u → t ≤ u)
least_some system task t known e =
    let found = first_some (fits_in system (rank system task)) (task_at system task).deadline t (sym (to_deadline system task known) ∙ e) in (
      record { some = found.some; in_time = found.within; fits = is_fits (need system (rank system task) t) t found.passes },
      λ u h. elim (dec_le t u) [
        | yes low ↦ low
        | no high ↦ absurd (false≢true (sym (found.least u h.some (omega (arith, high))) ∙ fits_is system task u h.fits))
      ],
    )

pub least_none : (system : System) (task : ℕ) → task < length system.tasks → least_time system (rank system task) ≡ None → (t : ℕ) → ¬ Serves system task t
least_none system task known e t h =
    false≢true (sym (first_none (fits_in system (rank system task)) (task_at system task).deadline (sym (to_deadline system task known) ∙ e) t h.some h.in_time) ∙ fits_is system task t h.fits)

-- each served task has a least time
served_some : (system : System) (task t : ℕ) → task < length system.tasks → Serves system task t → is_none (least_time system (rank system task)) ≡ false
served_some system task t known h = by_found (least_time system (rank system task)) refl
  where
    by_found : (o : Option ℕ) → least_time system (rank system task) ≡ o → is_none (least_time system (rank system task)) ≡ false
    by_found None e = absurd (least_none system task known e t h)
    by_found (Some u) e = ap is_none e

-- and one that has none is not served
pub none_serves : (system : System) (task : ℕ) → task < length system.tasks → is_none (least_time system (rank system task)) ≡ true → (t : ℕ) → ¬ Serves system task t
none_serves system task known e t h = false≢true (sym (served_some system task t known h) ∙ e)

pub some_serves : (system : System) (task : ℕ) → task < length system.tasks → is_none (least_time system (rank system task)) ≡ false → (t : ℕ) × Serves system task t
some_serves system task known e = by_found (least_time system (rank system task)) refl
  where
    by_found : (o : Option ℕ) → least_time system (rank system task) ≡ o → (t : ℕ) × Serves system task t
    by_found None f = absurd (false≢true (sym e ∙ ap is_none f))
    by_found (Some u) f = (u, (least_some system task u known f).0)

pub test_is : (system : System) → (unserved system ≡ None) ↔ EachIsServed system
test_is system = (
  λ none task known.
      let bound = rank_bound system task known in
      some_serves system task known (first_none (λ place. is_none (least_time system place)) (length system.tasks) none (rank system task) bound.0 bound.1),
  λ each. first_missing (λ place. is_none (least_time system place)) (length system.tasks)
      (λ place some within.
      let found = rank_found system place some within in
      let served = each found.0 found.1 in
      subst (λ (k : ℕ). is_none (least_time system k) ≡ false) found.2 (served_some system found.0 served.0 found.1 served.1)),
)

unserved_is : (system : System) (place : ℕ) → unserved system ≡ Some place → IsFirst (λ k. is_none (least_time system k)) (length system.tasks) place
unserved_is system place e = first_some (λ k. is_none (least_time system k)) (length system.tasks) place e

pub first_fails : (system : System) (task : ℕ) → task < length system.tasks → unserved system ≡ Some (rank system task) → (t : ℕ) → ¬ Serves system task t
first_fails system task known e = none_serves system task known (unserved_is system (rank system task) e).passes

pub earlier_serves : (system : System) (task place : ℕ) → task < length system.tasks → unserved system ≡ Some place → rank system task < place → (t : ℕ) × Serves system task t
earlier_serves system task place known e before =
    some_serves system task known ((unserved_is system place e).least (rank system task) (rank_bound system task known).0 before)

pub unserved_known : (system : System) (place : ℕ) → unserved system ≡ Some place → (1 ≤ place) × (place ≤ length system.tasks)
unserved_known system place e = let is = unserved_is system place e in (is.some, is.within)
