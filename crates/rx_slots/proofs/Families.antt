-- The jobs that have the slots of a window.
use Rattle.std.proofs.Common.{ℕ, suc, ◌≡◌, ◌≤◌, ◌<◌, Bool, true, false, Option, Some, None, refl, sym, ◌∙◌, arith}
use Rattle.std.proofs.Math.Decide.{dec_le}
use Rattle.std.proofs.lemmas.Bool.{false≢true}
use Rattle.rx_set.specs.declared.jobs.Job.{Job}
use Rattle.rx_set.specs.System.{System, release, key, is_below}
use Rattle.rx_set.specs.Valid.{IsValid, IsJobOf}
use Rattle.rx_set.proofs.Keys.{below_swap}
use Rattle.rx_slots.specs.Laws.{who, finished_before, IsPendingAt, IsPreemption}
use Rattle.rx_slots.specs.Windows.{IsFamily, IsLeft, IsBusyWindow}
use Rattle.rx_slots.proofs.Choices.{who_pending, who_least, not_idle}
use Rattle.rx_slots.proofs.Steps.{unfinished_before}
use Rattle.rx_slots.proofs.Preemptions.{preempting_below}

-- a job of the family that is unfinished at the window's begin, or later, was released in it
pub released_since : (system : System) (family : Job → Bool) (a b n : ℕ) (job : Job) → IsBusyWindow system family a b → a ≤ n → family job ≡ true → IsJobOf system job → finished_before system job n ≡ false
    → a ≤ release system job
released_since system family a b n job busy h mine known unfinished = elim (dec_le a (release system job)) [
  | yes late ↦ late
  | no early ↦ absurd (busy.none job mine (record { known = known; released = omega (arith, early); unfinished = unfinished_before system job a n h unfinished }))
]

-- a job whose key is not above that of a job of the family is one of the family
pub in_family : (system : System) (family : Job → Bool) (job other : Job) → IsFamily system family → IsJobOf system job → IsJobOf system other → family job ≡ true
    → is_below (key system job) (key system other) ≡ false → family other ≡ true
in_family system family job other closed known there mine h = by_test (family other) refl
  where
    by_test : (b : Bool) → family other ≡ b → family other ≡ true
    by_test true e = e
    by_test false e = absurd (false≢true (sym h ∙ closed job other known there mine e))

-- so the job that preempts a job of the family is one of the family
pub preempting_family : (system : System) (family : Job → Bool) (at : ℕ) (job by : Job) → IsValid system → IsFamily system family → IsPreemption system at job by → family job ≡ true → family by ≡ true
preempting_family system family at job by valid closed h mine =
    in_family system family job by closed (who_pending system h.before job h.had).known (who_pending system at by h.has).known mine
    (below_swap (key system by) (key system job) (preempting_below system at job by valid h))

-- each slot of a window belongs to a job of the family that was released in it
pub window_slots : (system : System) (family : Job → Bool) (a b : ℕ) → IsValid system → IsBusyWindow system family a b
    → (n : ℕ) → a ≤ n → n < b → (job : Job) × (who system n ≡ Some job) × (family job ≡ true) × (a ≤ release system job) × (release system job < b)
window_slots system family a b valid busy n from until = by_owner (who system n) refl
  where
    left : (job : Job) × (family job ≡ true) × IsLeft system (suc n) job
    left = busy.some (suc n) (omega (arith, from)) (omega (arith, until))

    pending : IsPendingAt system n left.0
    pending = record {
      known = left.2.known;
      released = omega (arith, left.2.released);
      unfinished = unfinished_before system left.0 n (suc n) (omega arith) left.2.unfinished;
    }

    by_owner : (o : Option Job) → who system n ≡ o → (job : Job) × (who system n ≡ Some job) × (family job ≡ true) × (a ≤ release system job) × (release system job < b)
    by_owner None e = absurd (not_idle system n left.0 valid pending e)
    by_owner (Some job) e =
        let is : IsPendingAt system n job = who_pending system n job e in
        let mine : family job ≡ true =
        in_family system family left.0 job busy.closed left.2.known is.known left.1 ((who_least system n job valid e).least left.0 pending) in
        (job, e, mine, released_since system family a b n job busy from mine is.known is.unfinished, omega (arith, is.released, until))
