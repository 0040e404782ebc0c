-- In each interval the retries are at most the preemptions, and these at most releases.
use Rattle.std.proofs.Common.{ℕ, zero, suc, ◌≡◌, ◌≢◌, ◌≤◌, ◌<◌, ◌&&◌, nat_lt, nat_le, Bool, true, false, cond, None, refl, arith}
use Rattle.std.proofs.lemmas.Bool.{false≢true, lt-ltb, leb-true, ltb-true}
use Rattle.rx_set.specs.declared.policies.Policy.TheVariants.{Edf}
use Rattle.rx_set.specs.declared.jobs.Job.{Job}
use Rattle.rx_set.specs.System.{System, rank}
use Rattle.rx_set.specs.Valid.{IsValid, IsJobOf}
use Rattle.rx_set.proofs.Totals.{total_up, charged}
use Rattle.rx_ledger.specs.declared.events.Event.TheVariants.{Release, Preempt}
use Rattle.rx_ledger.specs.Intervals.{is_retry_in, is_preemption_in, is_release_in, retries, preemptions, releases}
use Rattle.rx_slots.specs.Schedule.{Decide, slot_at}
use Rattle.rx_slots.specs.Events.{events}
use Rattle.rx_slots.specs.Laws.{so_far, IsPreemption}
use Rattle.rx_slots.specs.Charges.{IsFirstPreemption, of_rank_to, of_rank_below}
use Rattle.rx_slots.proofs.Choices.{both, who_pending}
use Rattle.rx_slots.proofs.Preemptions.{preempting_released}
use Rattle.rx_slots.proofs.EventSums.{counted, at_slot, events_total, IsOnPreemptions, IsOnDecisions, HasPreemption, NoPreemption, OnePreemption, preemption_weight, preemption_value, HasRetry, NoRetry, OneRetry, retry_weight, release_weighs}
use Rattle.rx_slots.proofs.FixedKeys.{preempting_rank}
use Rattle.rx_slots.proofs.Charged.{charge_found, IsCharged, charged_once}

retries_alone : (test : Job → Bool) (a b : ℕ) → IsOnDecisions (counted (is_retry_in test a b))
retries_alone test a b = record { miss = λ n job. refl; release = λ n job. refl; preempt = λ n job by. refl; finish = λ n job. refl }

preemptions_alone : (test : Job → Bool) (a b : ℕ) → IsOnPreemptions (counted (is_preemption_in test a b))
preemptions_alone test a b = record {
  miss = λ n job. refl;
  release = λ n job. refl;
  reply = λ n first job item answer tag. refl;
  retry = λ n first job item expected found. refl;
  finish = λ n job. refl;
}

abbrev bit : Bool → ℕ
bit test = cond test 1 0

all_three : (x y z : Bool) → x ≡ true → y ≡ true → z ≡ true → bit (x && (y && z)) ≡ 1
all_three true true true e f g = refl
all_three true true false e f g = absurd (false≢true g)
all_three true false z e f g = absurd (false≢true f)
all_three false y z e f g = absurd (false≢true e)

-- a slot whose retry is counted
pub record CountsRetry (test : Job → Bool) (a b : ℕ) (system : System) (n : ℕ) : Type 0 where
  pub job : Job
  pub object : ℕ
  pub slot : slot_at system n ≡ Decide job object None
  pub from : a ≤ (so_far system job n).first
  pub until : n < b
  pub passes : test job ≡ true
  pub one : at_slot (counted (is_retry_in test a b)) system n ≡ 1

pub counts_retry : (test : Job → Bool) (a b : ℕ) (system : System) (n : ℕ) → 1 ≤ at_slot (counted (is_retry_in test a b)) system n → CountsRetry test a b system n
counts_retry test a b system n some = by_weight (retry_weight (counted (is_retry_in test a b)) system n (retries_alone test a b) (λ at first job item answer tag. refl))
  where
    by_test : (job : Job) (object : ℕ) → slot_at system n ≡ Decide job object None → (t : Bool) → (nat_le a (so_far system job n).first && (nat_lt n b && test job)) ≡ t
        → at_slot (counted (is_retry_in test a b)) system n ≡ cond t 1 0 → CountsRetry test a b system n
    by_test job object slot true e is =
        let parts = both (nat_le a (so_far system job n).first) (nat_lt n b && test job) e in
        let rest = both (nat_lt n b) (test job) parts.1 in
        record { job = job; object = object; slot = slot; from = leb-true a (so_far system job n).first parts.0; until = ltb-true n b rest.0; passes = rest.1; one = is }
    by_test job object slot false e is = absurd (omega (arith, is, some))

    by_weight : HasRetry (counted (is_retry_in test a b)) system n → CountsRetry test a b system n
    by_weight (NoRetry e) = absurd (omega (arith, e, some))
    by_weight (OneRetry job object item expected found slot e) = by_test job object slot (nat_le a (so_far system job n).first && (nat_lt n b && test job)) refl e

-- a slot whose preemption is counted
pub record CountsPreemption (test : Job → Bool) (a b : ℕ) (system : System) (n : ℕ) : Type 0 where
  pub job : Job
  pub by : Job
  pub is : IsPreemption system n job by
  pub from : a < n
  pub until : n < b
  pub passes : test job ≡ true
  pub one : at_slot (counted (is_preemption_in test a b)) system n ≡ 1

pub counts_preemption : (test : Job → Bool) (a b : ℕ) (system : System) (n : ℕ) → 1 ≤ at_slot (counted (is_preemption_in test a b)) system n → CountsPreemption test a b system n
counts_preemption test a b system n some = by_weight (preemption_weight (counted (is_preemption_in test a b)) system n (preemptions_alone test a b))
  where
    by_test : (job by : Job) → IsPreemption system n job by → (t : Bool) → (nat_lt a n && (nat_lt n b && test job)) ≡ t
        → at_slot (counted (is_preemption_in test a b)) system n ≡ cond t 1 0 → CountsPreemption test a b system n
    by_test job by is true e weight =
        let parts = both (nat_lt a n) (nat_lt n b && test job) e in
        let rest = both (nat_lt n b) (test job) parts.1 in
        record { job = job; by = by; is = is; from = ltb-true a n parts.0; until = ltb-true n b rest.0; passes = rest.1; one = weight }
    by_test job by is false e weight = absurd (omega (arith, weight, some))

    by_weight : HasPreemption (counted (is_preemption_in test a b)) system n → CountsPreemption test a b system n
    by_weight (NoPreemption e) = absurd (omega (arith, e, some))
    by_weight (OnePreemption job by is e) = by_test job by is (nat_lt a n && (nat_lt n b && test job)) refl e

-- a preemption strictly between is counted
pub preemption_counted : (test : Job → Bool) (a b : ℕ) (system : System) (n : ℕ) (job by : Job) → IsPreemption system n job by → a < n → n < b → test job ≡ true
    → 1 ≤ at_slot (counted (is_preemption_in test a b)) system n
preemption_counted test a b system n job by is from until passes =
    let one : counted (is_preemption_in test a b) (Preempt n job by) ≡ 1 = all_three (nat_lt a n) (nat_lt n b) (test job) (lt-ltb a n from) (lt-ltb n b until) passes in
    omega (arith, one, preemption_value (counted (is_preemption_in test a b)) system n job by (preemptions_alone test a b) is)

pub retries_bounded : (test : Job → Bool) (system : System) (n a b : ℕ) → IsValid system → retries test a b (events system n) ≤ preemptions test a b (events system n)
retries_bounded test system n a b valid =
    omega (
      arith,
      events_total (counted (is_retry_in test a b)) system n,
      events_total (counted (is_preemption_in test a b)) system n,
      charged (IsCharged system) (at_slot (counted (is_retry_in test a b)) system) (at_slot (counted (is_preemption_in test a b)) system) n n each
          (λ i k at h g. charged_once system i k at valid h g),
    )
  where
    each : (i : ℕ) → i < n → 1 ≤ at_slot (counted (is_retry_in test a b)) system i
        → (at : ℕ) × (at < n) × (at_slot (counted (is_retry_in test a b)) system i ≤ at_slot (counted (is_preemption_in test a b)) system at) × IsCharged system i at
    each i inside some =
        let h : CountsRetry test a b system i = counts_retry test a b system i some in
        let found = charge_found system i h.object h.job valid h.slot in
        let below : found.0 < i = found.2 in
        let first : IsFirstPreemption system (so_far system h.job i).first found.0 h.job found.1 = found.3 in
        let counts = preemption_counted test a b system found.0 h.job found.1 first.preempts (omega (arith, h.from, first.after)) (omega (arith, below, h.until)) h.passes in (
          found.0,
          omega (arith, below, inside),
          omega (arith, h.one, counts),
          record { job = h.job; object = h.object; by = found.1; slot = h.slot; below = below; first = first; held = found.4 },
        )

-- a preemption of a job of a rank up to a place is the release of one of a rank below it
preemption_released : (system : System) (place a b : ℕ) → IsValid system → system.policy ≢ Edf → (n : ℕ)
    → at_slot (counted (is_preemption_in (of_rank_to system place) a b)) system n ≤ at_slot (counted (is_release_in (of_rank_below system place) a b)) system n
preemption_released system place a b valid fixed n = by_test (at_slot (counted (is_preemption_in (of_rank_to system place) a b)) system n) refl
  where
    some_counted : CountsPreemption (of_rank_to system place) a b system n → 1 ≤ at_slot (counted (is_release_in (of_rank_below system place) a b)) system n
    some_counted h =
        let ranked : rank system h.job.task ≤ place = leb-true (rank system h.job.task) place h.passes in
        let below : rank system h.by.task < place = omega (arith, ranked, preempting_rank system n h.job h.by valid fixed h.is) in
        let one : counted (is_release_in (of_rank_below system place) a b) (Release n h.by) ≡ 1
        = all_three (nat_lt a n) (nat_lt n b) (of_rank_below system place h.by) (lt-ltb a n h.from) (lt-ltb n b h.until) (lt-ltb (rank system h.by.task) place below) in
        let known : IsJobOf system h.by = (who_pending system n h.by h.is.has).known in
        omega (arith, one, release_weighs (counted (is_release_in (of_rank_below system place) a b)) system n h.by valid known (preempting_released system n h.job h.by valid h.is))

    by_test : (weight : ℕ) → at_slot (counted (is_preemption_in (of_rank_to system place) a b)) system n ≡ weight
        → at_slot (counted (is_preemption_in (of_rank_to system place) a b)) system n ≤ at_slot (counted (is_release_in (of_rank_below system place) a b)) system n
    by_test zero e = omega (arith, e)
    by_test (suc weight) e =
        let h : CountsPreemption (of_rank_to system place) a b system n = counts_preemption (of_rank_to system place) a b system n (omega (arith, e)) in
        omega (arith, h.one, some_counted h)

pub ranks_bounded : (system : System) (n place a b : ℕ) → IsValid system → system.policy ≢ Edf
    → retries (of_rank_to system place) a b (events system n) ≤ releases (of_rank_below system place) a b (events system n)
ranks_bounded system n place a b valid fixed =
    omega (
      arith,
      retries_bounded (of_rank_to system place) system n a b valid,
      events_total (counted (is_preemption_in (of_rank_to system place) a b)) system n,
      events_total (counted (is_release_in (of_rank_below system place) a b)) system n,
      total_up (at_slot (counted (is_preemption_in (of_rank_to system place) a b)) system) (at_slot (counted (is_release_in (of_rank_below system place) a b)) system) n
          (λ k h. preemption_released system place a b valid fixed k),
    )
