-- Earliest deadline first: where the demand of each span fits into it, no deadline is missed.
use Rattle.std.proofs.Common.{ℕ, ◌≡◌, ◌≢◌, ◌≤◌, ◌<◌, ◌+◌, ◌-◌, ◌==◌, ◌&&◌, ◌||◌, nat_le, nat_lt, Bool, true, false, [], length, None, refl, sym, arith, subst}
use Rattle.std.proofs.lemmas.Bool.{le-leb, leb-true, leb-false, ltb-true}
use Rattle.std.proofs.lemmas.Bool.Decides.{nat_tests}
use Rattle.rx_set.specs.declared.policies.Policy.{Policy}
use Rattle.rx_set.specs.declared.policies.Policy.TheVariants.{Rm, Dm, Edf}
use Rattle.rx_set.specs.declared.jobs.Job.{Job}
use Rattle.rx_set.specs.System.{System, release, due, key_by, is_below, cost, attempt_cost}
use Rattle.rx_set.specs.Charges.{charge_edf}
use Rattle.rx_set.specs.Valid.{IsValid, IsJobOf, KeepsCosts}
use Rattle.rx_slots.specs.Schedule.{Decide, slots, slot_at}
use Rattle.rx_slots.specs.Events.{misses}
use Rattle.rx_slots.specs.Laws.{so_far, finished_before}
use Rattle.rx_slots.specs.Charges.{IsFirstPreemption}
use Rattle.rx_slots.specs.Windows.{IsFamily, IsLeft, IsWindow, is_released_in, demand_of, demand, charge, is_due_in, due_of, due_demand}
use Rattle.rx_slots.proofs.Choices.{both, who_pending}
use Rattle.rx_slots.proofs.JobSums.{jobs_up, jobs_plus}
use Rattle.rx_slots.proofs.WindowLaw.{where_it, where_true, and_true, window_length, in_parts}
use Rattle.rx_slots.proofs.Moments.{IsLastFree, last_free, is_between, charge_released, no_miss}
use Rattle.rx_slots.proofs.Spoilers.{deadlines_cover}

-- the jobs that are due at a time or before
abbrev pub is_due_by : System → ℕ → Job → Bool
is_due_by system b job = nat_le (due system job) b

-- keys of a deadline, a task and a number
sooner_by : (x y task other k m : ℕ) → x < y → (nat_lt x y || ((x == y) && (nat_lt task other || ((task == other) && nat_lt k m)))) ≡ true
sooner_by x y task other k m h = grind (arith, nat_tests)

sooner_due_by : (policy : Policy) (system : System) (job other : Job) → policy ≡ Edf → due system job < due system other → is_below (key_by policy system job) (key_by policy system other) ≡ true
sooner_due_by Edf system job other by_due h = sooner_by (due system job) (due system other) job.task other.task job.number other.number h
sooner_due_by Rm system job other by_due h = absurd (not_edf by_due)
  where
    not_edf : Rm ≡ Edf → ⊥
    not_edf e = cc
sooner_due_by Dm system job other by_due h = absurd (not_edf by_due)
  where
    not_edf : Dm ≡ Edf → ⊥
    not_edf e = cc

-- they go before all others
pub dues_closed : (system : System) (b : ℕ) → system.policy ≡ Edf → IsFamily system (is_due_by system b)
dues_closed system b by_due job other known there mine its =
    sooner_due_by system.policy system job other by_due (omega (arith, leb-true (due system job) b mine, leb-false (due system other) b its))

-- the costs of the window's jobs, and the charges of those that are released strictly inside it, are part of its demand
job_small : (system : System) (charges : ℕ → ℕ) (a b : ℕ) (job : Job)
    → demand_of system (is_due_by system b) a b job + where_it (is_between system (is_due_by system b) a b job) (charges job.task) ≤ due_of system charges a b job
job_small system charges a b job = by_tests (is_released_in system (is_due_by system b) a b job) refl (is_between system (is_due_by system b) a b job) refl
  where
    due_true : (nat_le (due system job) b) ≡ true → a ≤ release system job → due_of system charges a b job ≡ cost system job.task + charges job.task
    due_true by_end from =
        where_true (is_due_in system a b job) (cost system job.task + charges job.task)
        (and_true (nat_le a (release system job)) (nat_le (due system job) b) (le-leb a (release system job) from) by_end)

    by_in : is_released_in system (is_due_by system b) a b job ≡ true → due_of system charges a b job ≡ cost system job.task + charges job.task
    by_in e = let parts = in_parts system (is_due_by system b) a b job e in due_true parts.0 parts.1

    by_between : is_between system (is_due_by system b) a b job ≡ true → due_of system charges a b job ≡ cost system job.task + charges job.task
    by_between e =
        let parts = both (is_due_by system b job) (nat_lt a (release system job) && nat_lt (release system job) b) e in
        let times = both (nat_lt a (release system job)) (nat_lt (release system job) b) parts.1 in
        due_true parts.0 (omega (arith, ltb-true a (release system job) times.0))

    by_tests : (s : Bool) → is_released_in system (is_due_by system b) a b job ≡ s → (t : Bool) → is_between system (is_due_by system b) a b job ≡ t
        → where_it s (cost system job.task) + where_it t (charges job.task) ≤ due_of system charges a b job
    by_tests true e true f = omega (arith, by_in e)
    by_tests true e false f = omega (arith, by_in e)
    by_tests false e true f = omega (arith, by_between f)
    by_tests false e false f = omega arith

demand_small : (system : System) (charges : ℕ → ℕ) (a b : ℕ) → IsValid system
    → demand system (is_due_by system b) a b + charge system (is_due_by system b) charges a b ≤ due_demand system charges a b
demand_small system charges a b valid =
    omega (
      arith,
      charge_released system (is_due_by system b) (is_due_by system b) charges a b valid (λ at job by h mine its. its),
      jobs_plus system b (demand_of system (is_due_by system b) a b) (λ job. where_it (is_between system (is_due_by system b) a b job) (charges job.task)),
      jobs_up system b (λ job. demand_of system (is_due_by system b) a b job + where_it (is_between system (is_due_by system b) a b job) (charges job.task)) (due_of system charges a b)
          (λ job known. job_small system charges a b job),
    )

-- the charges cover all retries
abbrev pub CoverAll : System → (ℕ → ℕ) → Type 0
CoverAll system charges = (n object at : ℕ) (job by : Job) → slot_at system n ≡ Decide job object None → IsFirstPreemption system (so_far system job n).first at job by → attempt_cost system object ≤ charges by.task

-- the demand of each span that ends at n or before fits into it
abbrev pub SpansFit : System → (ℕ → ℕ) → ℕ → Type 0
SpansFit system charges n = (a b : ℕ) → a < b → b ≤ n → due_demand system charges a b ≤ b - a

module _ (system : System) (charges : ℕ → ℕ) (n : ℕ) (valid : IsValid system) (keeps : KeepsCosts system) (by_due : system.policy ≡ Edf) (covers : CoverAll system charges) (fits : SpansFit system charges n) where
  overdue : (job : Job) (m : ℕ) → m ≤ n → IsJobOf system job → due system job ≡ m → finished_before system job m ≡ false → ⊥
  overdue job m until known now unfinished =
      absurd (omega (
        arith,
        before,
        fits free.at m before until,
        demand_small system charges free.at m valid,
        window_length system (is_due_by system m) charges free.at m valid window keeps,
      ))
    where
      mine : is_due_by system m job ≡ true
      mine = le-leb (due system job) m (omega (arith, now))

      left : IsLeft system m job
      left = record { known = known; released = omega (arith, now, (valid.tasks job.task known.task).deadline.0); unfinished = unfinished }

      free : IsLastFree system (is_due_by system m) m
      free = last_free system (is_due_by system m) m valid

      apart : free.at ≢ m
      apart e = free.none job mine (subst (λ (k : ℕ). IsLeft system k job) (sym e) left)

      before : free.at < m
      before = omega (arith, free.until, apart)

      window : IsWindow system (is_due_by system m) charges free.at m
      window = record {
        busy = record { order = before; closed = dues_closed system m by_due; none = free.none; some = free.some };
        covers = λ its by k object at family early e from first. covers k object at its by e first;
      }

  pub fitting_spans : (m : ℕ) → m ≤ n → misses system (slots system m) ≡ []
  fitting_spans m until = no_miss system m (λ job known now unfinished. overdue job m until known now unfinished)

-- charges of what a release can cost at least cover all retries
pub demand_law : (system : System) (charges : ℕ → ℕ) (n : ℕ) → IsValid system → KeepsCosts system → system.policy ≡ Edf
    → ((task : ℕ) → task < length system.tasks → charge_edf system task ≤ charges task) → SpansFit system charges n → (m : ℕ) → m ≤ n → misses system (slots system m) ≡ []
demand_law system charges n valid keeps by_due much fits =
    fitting_spans system charges n valid keeps by_due
    (λ m object at job by e first. omega (arith, deadlines_cover system valid by_due m object at job by e first, much by.task (who_pending system at by first.preempts.has).known.task)) fits
