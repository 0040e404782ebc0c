-- Fixed priorities: a set whose tasks are served misses no deadline.
use Rattle.std.proofs.Common.{ℕ, suc, ◌≡◌, ◌≢◌, ◌≤◌, ◌<◌, ◌+◌, ◌-◌, ◌*◌, nat_le, nat_lt, false, [], length, None, arith, subst}
use Rattle.std.proofs.Math.Decide.{dec_le}
use Rattle.std.proofs.lemmas.Bool.{le-leb, lt-ltb, leb-true}
use Rattle.rx_set.specs.declared.policies.Policy.TheVariants.{Edf}
use Rattle.rx_set.specs.declared.jobs.Job.{Job}
use Rattle.rx_set.specs.System.{System, task_at, release, due, rank, cost, attempt_cost}
use Rattle.rx_set.specs.Valid.{IsValid, IsJobOf, KeepsCosts}
use Rattle.rx_set.specs.Admission.{total, ceiling, cost_to, charge_of, charge_to, charged_need, EachIsServed}
use Rattle.rx_set.proofs.Totals.{total_up}
use Rattle.rx_slots.specs.Schedule.{Decide, slots, slot_at}
use Rattle.rx_slots.specs.Events.{misses}
use Rattle.rx_slots.specs.Laws.{so_far, finished_before}
use Rattle.rx_slots.specs.Charges.{IsFirstPreemption, of_rank_to, of_rank_below}
use Rattle.rx_slots.specs.Windows.{IsLeft, IsBusyWindow, IsWindow, demand_of, demand, charge}
use Rattle.rx_slots.proofs.Steps.{unfinished_before}
use Rattle.rx_slots.proofs.JobSums.{task_total}
use Rattle.rx_slots.proofs.WindowLaw.{where_it, window_length}
use Rattle.rx_slots.proofs.Moments.{IsLastFree, last_free, is_between, charge_released, no_miss}
use Rattle.rx_slots.proofs.JobCounts.{task_jobs_where}
use Rattle.rx_slots.proofs.Spoilers.{ranks_cover}
use Rattle.rx_slots.proofs.FixedKeys.{ranks_closed, preempting_rank}

-- t ticks serve a task, with any charges
pub record ServesWith (system : System) (charges : ℕ → ℕ) (task t : ℕ) : Type 0 where
  pub some : 1 ≤ t
  pub in_time : t ≤ (task_at system task).deadline
  pub fits : charged_need system charges (rank system task) t ≤ t

-- the charges of a rank cover the retries of the tasks up to it
abbrev pub CoverRanks : System → (ℕ → ℕ → ℕ) → Type 0
CoverRanks system charges = (place n object at : ℕ) (job by : Job) → rank system job.task ≤ place → slot_at system n ≡ Decide job object None
    → IsFirstPreemption system (so_far system job n).first at job by → attempt_cost system object ≤ charges place by.task

length_is : (a t : ℕ) → a + t - a ≡ t
length_is a t = omega arith

less_one : (a t : ℕ) → a + t - suc a ≡ t - 1
less_one a t = omega arith

-- the stated costs of a window of t ticks
demand_small : (system : System) (place a t : ℕ) → IsValid system → demand system (of_rank_to system place) a (a + t) ≤ total (cost_to system place t) (length system.tasks)
demand_small system place a t valid =
    total_up (task_total (a + t) (demand_of system (of_rank_to system place) a (a + t))) (cost_to system place t) (length system.tasks)
    (λ task known.
    subst (λ (u : ℕ). task_total (a + t) (demand_of system (of_rank_to system place) a (a + t)) task ≤ where_it (nat_le (rank system task) place) (ceiling u (task_at system task).period * cost system task)) (length_is a t)
    (task_jobs_where system task a (a + t) (cost system task) (a + t + 1) (nat_le (rank system task) place) valid known))

-- and the charges of the preemptions in it
charge_small : (system : System) (charges : ℕ → ℕ) (place a t : ℕ) → IsValid system → system.policy ≢ Edf
    → charge system (of_rank_to system place) charges a (a + t) ≤ total (charge_to system charges place t) (length system.tasks)
charge_small system charges place a t valid fixed =
    omega (
      arith,
      charge_released system (of_rank_to system place) (of_rank_below system place) charges a (a + t) valid (λ at job by h mine its.
          lt-ltb (rank system by.task) place (omega (arith, preempting_rank system at job by valid fixed h, leb-true (rank system job.task) place mine))),
      total_up (task_total (a + t) (λ job. where_it (is_between system (of_rank_below system place) a (a + t) job) (charges job.task))) (charge_to system charges place t) (length system.tasks)
          (λ task known.
          subst (λ (u : ℕ). task_total (a + t) (λ job. where_it (is_between system (of_rank_below system place) a (a + t) job) (charges job.task)) task ≤ where_it (nat_lt (rank system task) place) (ceiling u (task_at system task).period * charges task)) (less_one a t)
          (task_jobs_where system task (suc a) (a + t) (charges task) (a + t + 1) (nat_lt (rank system task) place) valid known)),
    )

module _ (system : System) (charges : ℕ → ℕ → ℕ) (n : ℕ) (valid : IsValid system) (keeps : KeepsCosts system) (fixed : system.policy ≢ Edf) (covers : CoverRanks system charges) where
  -- a job that is due now and unfinished makes a window in which its rank needs more than there is
  overdue : (job : Job) (t : ℕ) → IsJobOf system job → due system job ≡ n → finished_before system job n ≡ false → ServesWith system (charges (rank system job.task)) job.task t → ⊥
  overdue job t known now unfinished serves =
      absurd (omega (
        arith,
        serves.fits,
        length_is free.at t,
        demand_small system (rank system job.task) free.at t valid,
        charge_small system (charges (rank system job.task)) (rank system job.task) free.at t valid fixed,
        window_length system (of_rank_to system (rank system job.task)) (charges (rank system job.task)) free.at (free.at + t) valid window keeps,
      ))
    where
      free : IsLastFree system (of_rank_to system (rank system job.task)) (release system job)
      free = last_free system (of_rank_to system (rank system job.task)) (release system job) valid

      left_later : (m : ℕ) → release system job < m → m ≤ n → IsLeft system m job
      left_later m after until = record { known = known; released = after; unfinished = unfinished_before system job m n until unfinished }

      busy : IsBusyWindow system (of_rank_to system (rank system job.task)) free.at (free.at + t)
      busy = record {
        order = omega (arith, serves.some);
        closed = ranks_closed system (rank system job.task) fixed;
        none = free.none;
        some = λ m after until. elim (dec_le m (release system job)) [
          | yes early ↦ free.some m after early
          | no late ↦ (
            job,
            le-leb (rank system job.task) (rank system job.task) (omega arith),
            left_later m (omega (arith, late)) (omega (arith, until, free.until, serves.in_time, now)),
          )
        ];
      }

      window : IsWindow system (of_rank_to system (rank system job.task)) (charges (rank system job.task)) free.at (free.at + t)
      window = record {
        busy = busy;
        covers = λ mine by m object at its until e from first. covers (rank system job.task) m object at mine by (leb-true (rank system mine.task) (rank system job.task) its) e first;
      }

  pub charged_sets : ((task : ℕ) → task < length system.tasks → (t : ℕ) × ServesWith system (charges (rank system task)) task t) → misses system (slots system n) ≡ []
  charged_sets each = no_miss system n (λ job known now unfinished. let serves = each job.task known.task in overdue job serves.0 known now unfinished serves.1)

pub served_sets : (system : System) (n : ℕ) → IsValid system → KeepsCosts system → system.policy ≢ Edf → EachIsServed system → misses system (slots system n) ≡ []
served_sets system n valid keeps fixed each =
    charged_sets system (charge_of system) n valid keeps fixed (ranks_cover system valid fixed)
    (λ task known. let served = each task known in (served.0, record { some = served.1.some; in_time = served.1.in_time; fits = served.1.fits }))
