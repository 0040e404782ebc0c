-- A window is shorter than the stated costs of the jobs that are released in it and the charges of their preemptions.
use Rattle.std.proofs.Common.{ℕ, zero, suc, ◌≡◌, ◌≢◌, ◌≤◌, ◌<◌, ◌+◌, ◌-◌, ◌&&◌, nat_le, nat_lt, Bool, true, false, if◌then◌else◌, Some, None, refl, sym, ◌∙◌, ap, arith}
use Rattle.std.proofs.Math.Decide.{dec_le}
use Rattle.std.proofs.lemmas.Bool.{lt-ltb, le-leb, leb-true, ltb-true}
use Rattle.std.proofs.lemmas.Bool.Decides.{nat_tests}
use Rattle.rx_set.specs.declared.jobs.Job.{Job}
use Rattle.rx_set.specs.System.{System, release, cost, item_at, attempt_cost}
use Rattle.rx_set.specs.Valid.{IsValid, IsJobOf, KeepsCosts}
use Rattle.rx_set.specs.Admission.{total}
use Rattle.rx_set.proofs.Releases.{number_bound}
use Rattle.rx_set.proofs.Totals.{total_up, total_if, charged}
use Rattle.rx_slots.specs.Schedule.{Slot, Idle, Busy, Decide, same, slot_at}
use Rattle.rx_slots.specs.Laws.{who, so_far, owned, lost_in, IsPreemption}
use Rattle.rx_slots.specs.Windows.{total_jobs, IsLeft, IsWindow, CoversRetries, CoversSpoiled, IsSpoiledAttempt, is_released_in, demand_of, demand, paid, charge}
use Rattle.rx_slots.proofs.Choices.{both, who_pending}
use Rattle.rx_slots.proofs.Steps.{same_self, same_is}
use Rattle.rx_slots.proofs.Attempts.{IsBegun, decision_is, decided_begun, lost_spoiled}
use Rattle.rx_slots.proofs.Charged.{charge_found, IsCharged, charged_once, held_decided}
use Rattle.rx_slots.proofs.JobSums.{jobs_same, jobs_plus, jobs_at, jobs_above, jobs_only, jobs_swap, jobs_some}
use Rattle.rx_slots.proofs.StatedTicks.{few_slots, fewer_slots}
use Rattle.rx_slots.proofs.EventSums.{at_slot, events_total, IsOnPreemptions, preemption_value}
use Rattle.rx_slots.proofs.Families.{released_since, preempting_family, window_slots}

-- a value that counts only where a test passes
abbrev pub where_it : Bool → ℕ → ℕ
where_it b value = if b then value else 0

pub where_true : (b : Bool) (value : ℕ) → b ≡ true → where_it b value ≡ value
where_true b value e = ap (λ (t : Bool). where_it t value) e

-- the slots from a to b - 1
abbrev pub from_on : ℕ → ℕ → ℕ
from_on a n = where_it (nat_le a n) 1

pub from_on_total : (a b : ℕ) → total (from_on a) b ≡ b - a
from_on_total a zero = omega arith
from_on_total a (suc b) = elim (dec_le a b) [
  | yes inside ↦ omega (arith, from_on_total a b, where_true (nat_le a b) 1 (le-leb a b inside))
  | no outside ↦ omega (arith, from_on_total a b, none (nat_le a b) (outside_is a b outside))
]
  where
    outside_is : (x y : ℕ) → (x ≤ y → ⊥) → nat_le x y ≡ false
    outside_is x y h = grind (arith, nat_tests)

    none : (t : Bool) → t ≡ false → where_it t 1 ≡ 0
    none t e = ap (λ (u : Bool). where_it u 1) e

pub and_true : (x y : Bool) → x ≡ true → y ≡ true → (x && y) ≡ true
and_true x y e f = ap (λ (t : Bool). t && y) e ∙ f

pub in_true : (system : System) (family : Job → Bool) (a b : ℕ) (job : Job) → family job ≡ true → a ≤ release system job → release system job < b → is_released_in system family a b job ≡ true
in_true system family a b job mine from until =
    and_true (family job) (nat_le a (release system job) && nat_lt (release system job) b) mine
    (and_true (nat_le a (release system job)) (nat_lt (release system job) b) (le-leb a (release system job) from) (lt-ltb (release system job) b until))

pub in_parts : (system : System) (family : Job → Bool) (a b : ℕ) (job : Job) → is_released_in system family a b job ≡ true → (family job ≡ true) × (a ≤ release system job) × (release system job < b)
in_parts system family a b job e =
    let parts = both (family job) (nat_le a (release system job) && nat_lt (release system job) b) e in
    let times = both (nat_le a (release system job)) (nat_lt (release system job) b) parts.1 in
    (parts.0, leb-true a (release system job) times.0, ltb-true (release system job) b times.1)

-- a slot that loses an attempt of a job
record IsLoss (system : System) (n : ℕ) (job : Job) : Type 0 where
  pub object : ℕ
  pub loses : slot_at system n ≡ Decide job object None
  pub ticks : lost_in system job (slot_at system n) ≡ attempt_cost system object

loss_at : (system : System) (n : ℕ) (job : Job) → 1 ≤ lost_in system job (slot_at system n) → IsLoss system n job
loss_at system n job some = by_slot (slot_at system n) refl
  where
    by_test : (other : Job) (object : ℕ) → slot_at system n ≡ Decide other object None → (b : Bool) → same other job ≡ b → lost_in system job (slot_at system n) ≡ where_it b (attempt_cost system object) → IsLoss system n job
    by_test other object e true s lost =
        record { object = object; loses = e ∙ ap (λ (j : Job). Decide j object None) (same_is other job s); ticks = lost }
    by_test other object e false s lost = absurd (omega (arith, some, lost))

    by_slot : (slot : Slot) → slot_at system n ≡ slot → IsLoss system n job
    by_slot Idle e = let none : lost_in system job (slot_at system n) ≡ 0 = ap (lost_in system job) e in absurd (omega (arith, some, none))
    by_slot (Busy other) e = let none : lost_in system job (slot_at system n) ≡ 0 = ap (lost_in system job) e in absurd (omega (arith, some, none))
    by_slot (Decide other object (Some entry)) e = let none : lost_in system job (slot_at system n) ≡ 0 = ap (lost_in system job) e in absurd (omega (arith, some, none))
    by_slot (Decide other object None) e =
        by_test other object e (same other job) refl (ap (lost_in system job) e)

-- no other job loses anything in such a slot
lost_once : (system : System) (n : ℕ) (job other : Job) → IsLoss system n job → other ≢ job → lost_in system other (slot_at system n) ≡ 0
lost_once system n job other loss apart =
    ap (lost_in system other) loss.loses ∙ by_test (same job other) refl
  where
    by_test : (b : Bool) → same job other ≡ b → where_it b (attempt_cost system loss.object) ≡ 0
    by_test true s = absurd (apart (sym (same_is job other s)))
    by_test false s = refl

pub paid_preemptions : (family : Job → Bool) (charges : ℕ → ℕ) (a b : ℕ) → IsOnPreemptions (paid family charges a b)
paid_preemptions family charges a b = record {
  miss = λ n job. refl;
  release = λ n job. refl;
  reply = λ n first job item answer tag. refl;
  retry = λ n first job item expected found. refl;
  finish = λ n job. refl;
}

-- a preemption among the family in the window is paid with the charge of the task that makes it
pub paid_at : (system : System) (family : Job → Bool) (charges : ℕ → ℕ) (a b at : ℕ) (job by : Job) → IsPreemption system at job by → a < at → at < b → family job ≡ true → family by ≡ true
    → charges by.task ≡ at_slot (paid family charges a b) system at
paid_at system family charges a b at job by h from until mine its =
    sym (preemption_value (paid family charges a b) system at job by (paid_preemptions family charges a b) h
    ∙ where_true (nat_lt a at && (nat_lt at b && (family job && family by))) (charges by.task)
    (and_true (nat_lt a at) (nat_lt at b && (family job && family by)) (lt-ltb a at from)
    (and_true (nat_lt at b) (family job && family by) (lt-ltb at b until) (and_true (family job) (family by) mine its))))

module _ (system : System) (family : Job → Bool) (charges : ℕ → ℕ) (a b : ℕ) (valid : IsValid system) (window : IsWindow system family charges a b) where
  -- what a slot loses of the attempts of the window's jobs
  abbrev lost_here : ℕ → ℕ
  lost_here n = total_jobs system b (λ job. where_it (is_released_in system family a b job) (lost_in system job (slot_at system n)))

  loss_charged : (n : ℕ) → n < b → 1 ≤ lost_here n → (at : ℕ) × (at < b) × (lost_here n ≤ at_slot (paid family charges a b) system at) × IsCharged system n at
  loss_charged n until some = by_job (jobs_some system b (λ job. where_it (is_released_in system family a b job) (lost_in system job (slot_at system n))) some)
    where
      found : (job : Job) → IsJobOf system job → is_released_in system family a b job ≡ true → IsLoss system n job
          → (at : ℕ) × (at < b) × (lost_here n ≤ at_slot (paid family charges a b) system at) × IsCharged system n at
      found job known is loss =
          let parts = in_parts system family a b job is in
          let charge = charge_found system n loss.object job valid loss.loses in
          let at : ℕ = charge.0 in
          let by : Job = charge.1 in
          let first : ℕ = (so_far system job n).first in
          let begun : IsBegun system job n (so_far system job n) = decided_begun system n job loss.object None loss.loses in
          let released : release system job ≤ first = (who_pending system first job (charge.3.own first (omega arith) charge.3.after)).released in
          let after : a < at = omega (arith, parts.1, released, charge.3.after) in
          let before : at < b = omega (arith, charge.2, until) in
          let its : family by ≡ true = preempting_family system family at job by valid window.busy.closed charge.3.preempts parts.0 in
          let much : attempt_cost system loss.object ≤ charges by.task = window.covers job by n loss.object at parts.0 until loss.loses (omega (arith, parts.1, released)) charge.3 in
          let pays : charges by.task ≡ at_slot (paid family charges a b) system at = paid_at system family charges a b at job by charge.3.preempts after before parts.0 its in
          let one : lost_here n ≤ where_it (is_released_in system family a b job) (lost_in system job (slot_at system n)) =
          jobs_only system b (λ other. where_it (is_released_in system family a b other) (lost_in system other (slot_at system n))) job known.number
          (λ other apart. nothing (is_released_in system family a b other) (lost_in system other (slot_at system n)) (lost_once system n job other loss apart)) in
          let its_value : where_it (is_released_in system family a b job) (lost_in system job (slot_at system n)) ≡ lost_in system job (slot_at system n) =
          where_true (is_released_in system family a b job) (lost_in system job (slot_at system n)) is in
          (at, before, omega (arith, one, its_value, loss.ticks, much, pays), record { job = job; object = loss.object; by = by; slot = loss.loses; below = charge.2; first = charge.3; held = charge.4 })
        where
          nothing : (t : Bool) (value : ℕ) → value ≡ 0 → where_it t value ≡ 0
          nothing true value e = e
          nothing false value e = refl

      by_test : (job : Job) → IsJobOf system job → (t : Bool) → is_released_in system family a b job ≡ t → 1 ≤ where_it t (lost_in system job (slot_at system n))
          → (at : ℕ) × (at < b) × (lost_here n ≤ at_slot (paid family charges a b) system at) × IsCharged system n at
      by_test job known true e value = found job known e (loss_at system n job value)
      by_test job known false e value = absurd (omega (arith, value))

      by_job : (job : Job) × IsJobOf system job × (1 ≤ where_it (is_released_in system family a b job) (lost_in system job (slot_at system n)))
          → (at : ℕ) × (at < b) × (lost_here n ≤ at_slot (paid family charges a b) system at) × IsCharged system n at
      by_job h = by_test h.0 h.1 (is_released_in system family a b h.0) refl h.2

  -- the attempts that the window's jobs lose are paid by the preemptions among them
  losses_paid : total lost_here b ≤ charge system family charges a b
  losses_paid =
      let all : charge system family charges a b ≡ total (at_slot (paid family charges a b) system) b = events_total (paid family charges a b) system b in
      omega (arith, all, charged (IsCharged system) lost_here (at_slot (paid family charges a b) system) b b loss_charged (λ m n at h g. charged_once system m n at valid h g))

  -- a job's slots, and the ticks of its lost attempts, if it is one of the window's
  abbrev own_slots : Job → ℕ
  own_slots job = where_it (is_released_in system family a b job) (total (λ n. owned job (who system n)) b)

  abbrev own_losses : Job → ℕ
  own_losses job = where_it (is_released_in system family a b job) (total (λ n. lost_in system job (slot_at system n)) b)

  -- each slot of the window is one of its jobs'
  slot_owned : (n : ℕ) → n < b → from_on a n ≤ total_jobs system b (λ job. where_it (is_released_in system family a b job) (owned job (who system n)))
  slot_owned n until = by_test (nat_le a n) refl
    where
      inside : a ≤ n → 1 ≤ total_jobs system b (λ job. where_it (is_released_in system family a b job) (owned job (who system n)))
      inside from =
          let has = window_slots system family a b valid window.busy n from until in
          let job : Job = has.0 in
          let known : IsJobOf system job = (who_pending system n job has.1).known in
          let one : owned job (who system n) ≡ 1 = ap (owned job) has.1 ∙ ap (λ (t : Bool). if t then 1 else 0) (same_self job) in
          let value : where_it (is_released_in system family a b job) (owned job (who system n)) ≡ owned job (who system n) =
          where_true (is_released_in system family a b job) (owned job (who system n)) (in_true system family a b job has.2 has.3 has.4) in
          omega (
            arith,
            one,
            value,
            jobs_at system b (λ other. where_it (is_released_in system family a b other) (owned other (who system n))) job known
                (number_bound system job b valid known.task (omega (arith, has.4))),
          )

      by_test : (t : Bool) → nat_le a n ≡ t → where_it t 1 ≤ total_jobs system b (λ job. where_it (is_released_in system family a b job) (owned job (who system n)))
      by_test true e = inside (leb-true a n e)
      by_test false e = omega arith

  slots_owned : b - a ≤ total_jobs system b own_slots
  slots_owned =
      let by_slots : total_jobs system b own_slots ≡ total (λ n. total_jobs system b (λ job. where_it (is_released_in system family a b job) (owned job (who system n)))) b =
      jobs_same system b own_slots (λ job. total (λ n. where_it (is_released_in system family a b job) (owned job (who system n))) b)
      (λ job. total_if (is_released_in system family a b job) (λ n. owned job (who system n)) b)
      ∙ jobs_swap system b b (λ job n. where_it (is_released_in system family a b job) (owned job (who system n))) in
      omega (
        arith,
        from_on_total a b,
        by_slots,
        total_up (from_on a) (λ n. total_jobs system b (λ job. where_it (is_released_in system family a b job) (owned job (who system n)))) b slot_owned,
      )

  -- and they are fewer than the stated costs and the lost ticks, by the job that is left at the end
  module _ (keeps : KeepsCosts system) where
    few_owned : (job : Job) → IsJobOf system job → own_slots job ≤ demand_of system family a b job + own_losses job
    few_owned job known = by_test (is_released_in system family a b job)
      where
        by_test : (t : Bool)
            → where_it t (total (λ n. owned job (who system n)) b) ≤ (if t then cost system job.task else 0) + where_it t (total (λ n. lost_in system job (slot_at system n)) b)
        by_test true = few_slots system job b valid keeps known
        by_test false = omega arith

    fewer_owned : (job : Job) → IsLeft system b job → is_released_in system family a b job ≡ true → own_slots job < demand_of system family a b job + own_losses job
    fewer_owned job left is =
        let slots_are : own_slots job ≡ total (λ n. owned job (who system n)) b = where_true (is_released_in system family a b job) (total (λ n. owned job (who system n)) b) is in
        let cost_is : demand_of system family a b job ≡ cost system job.task = where_true (is_released_in system family a b job) (cost system job.task) is in
        let losses_are : own_losses job ≡ total (λ n. lost_in system job (slot_at system n)) b =
        where_true (is_released_in system family a b job) (total (λ n. lost_in system job (slot_at system n)) b) is in
        omega (arith, slots_are, cost_is, losses_are, fewer_slots system job b valid keeps left.known left.unfinished)

    pub window_length : b - a < demand system family a b + charge system family charges a b
    window_length =
        let left = window.busy.some b window.busy.order (omega arith) in
        let job : Job = left.0 in
        let is : is_released_in system family a b job ≡ true =
        in_true system family a b job left.1
        (released_since system family a b b job window.busy (omega (arith, window.busy.order)) left.1 left.2.known left.2.unfinished) left.2.released in
        let less : total_jobs system b own_slots < total_jobs system b (λ other. demand_of system family a b other + own_losses other) =
        jobs_above system b own_slots (λ other. demand_of system family a b other + own_losses other) job left.2.known
        (number_bound system job b valid left.2.known.task (omega (arith, left.2.released))) few_owned (fewer_owned job left.2 is) in
        let apart : total_jobs system b (λ other. demand_of system family a b other + own_losses other) ≡ demand system family a b + total_jobs system b own_losses =
        jobs_plus system b (demand_of system family a b) own_losses in
        let by_slots : total_jobs system b own_losses ≡ total lost_here b =
        jobs_same system b own_losses (λ other. total (λ n. where_it (is_released_in system family a b other) (lost_in system other (slot_at system n))) b)
        (λ other. total_if (is_released_in system family a b other) (λ n. lost_in system other (slot_at system n)) b)
        ∙ jobs_swap system b b (λ other n. where_it (is_released_in system family a b other) (lost_in system other (slot_at system n))) in
        omega (arith, slots_owned, less, apart, by_slots, losses_paid)

-- a retry of a window is an attempt that is spoiled in it
pub retry_spoiled : (system : System) (n object b : ℕ) (job : Job) → slot_at system n ≡ Decide job object None → n < b → IsSpoiledAttempt system b job (so_far system job n).first object
retry_spoiled system n object b job e until =
    let is = decision_is system n job object None e in
    let begun : IsBegun system job n (so_far system job n) = decided_begun system n job object None e in
    record {
      call = is.call;
      begins = begun.begins;
      fresh = begun.fresh;
      asks = ap (item_at system job) begun.item ∙ is.asks;
      last = n;
      before = omega (arith, until);
      spoiled = lost_spoiled system n job object None e refl;
      held = held_decided system n job object None e;
    }

-- so charges that cover what is spoiled cover the retries
pub spoiled_covers : (system : System) (family : Job → Bool) (charges : ℕ → ℕ) (a b : ℕ) → CoversSpoiled system family charges a b → CoversRetries system family charges a b
spoiled_covers system family charges a b covers job by n object at mine until e from first =
    let begun : IsBegun system job n (so_far system job n) = decided_begun system n job object None e in
    covers job by (so_far system job n).first object at mine from (omega (arith, begun.before, until)) (retry_spoiled system n object b job e until) first
