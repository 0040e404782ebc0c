-- The words of the window law: how long the processor can be kept busy by the jobs that go before all others.
use Rattle.std.specs.Prelude.{ℕ, suc, ◌≡◌, ◌+◌, ◌<◌, ◌≤◌, ◌&&◌, nat_lt, nat_le, Bool, true, false, if◌then◌else◌, length, sum_by, Some, None}
use Rattle.rx_seq.specs.declared.calls.Call.{Call}
use Rattle.rx_set.specs.declared.items.Item.TheVariants.{Op}
use Rattle.rx_set.specs.declared.jobs.Job.{Job}
use Rattle.rx_set.specs.System.{System, release, due, key, is_below, cost, item_at, attempt_cost}
use Rattle.rx_set.specs.Valid.{IsJobOf}
use Rattle.rx_set.specs.Admission.{total}
use Rattle.rx_ledger.specs.declared.events.Event.{Event}
use Rattle.rx_ledger.specs.declared.events.Event.TheVariants.{Miss, Release, Preempt, Reply, Retry, Finish}
use Rattle.rx_slots.specs.Schedule.{Busy, Decide, slot_at}
use Rattle.rx_slots.specs.Events.{events}
use Rattle.rx_slots.specs.Laws.{so_far, finished_before, nth_job, IsSpoiled}
use Rattle.rx_slots.specs.Charges.{IsHeld, IsFirstPreemption}

-- a sum over the jobs 1 to n + 1 of each task: no other job is released at n or before
abbrev pub total_jobs : System → ℕ → (Job → ℕ) → ℕ
total_jobs system n f = total (λ task. total (λ k. f (nth_job task (suc k))) (n + 1)) (length system.tasks)

-- jobs that go before all others: their keys are below the keys of the rest
abbrev pub IsFamily : System → (Job → Bool) → Type 0
IsFamily system family = (job other : Job) → IsJobOf system job → IsJobOf system other → family job ≡ true → family other ≡ false → is_below (key system job) (key system other) ≡ true

-- a job that is left at a time: released before it, and not finished by the slots before it
pub record IsLeft (system : System) (n : ℕ) (job : Job) : Type 0 where
  pub known : IsJobOf system job
  pub released : release system job < n
  pub unfinished : finished_before system job n ≡ false

-- a window from a to b: no job of the family is left at its begin, and at each later time up to its end one is
pub record IsBusyWindow (system : System) (family : Job → Bool) (a b : ℕ) : Type 0 where
  pub order : a < b
  pub closed : IsFamily system family
  pub none : (job : Job) → family job ≡ true → IsLeft system a job → ⊥
  pub some : (n : ℕ) → a < n → n ≤ b → (job : Job) × (family job ≡ true) × IsLeft system n job

-- the charges of tasks cover the retries of a window: each retry of the family, of an attempt that begins and ends in
-- it, costs no more ticks than the charge of the task that made its first preemption
abbrev pub CoversRetries : System → (Job → Bool) → (ℕ → ℕ) → ℕ → ℕ → Type 0
CoversRetries system family charges a b = (job by : Job) (n object at : ℕ) → family job ≡ true → n < b → slot_at system n ≡ Decide job object None
    → a ≤ (so_far system job n).first → IsFirstPreemption system (so_far system job n).first at job by → attempt_cost system object ≤ charges by.task

-- a window whose retries are covered
pub record IsWindow (system : System) (family : Job → Bool) (charges : ℕ → ℕ) (a b : ℕ) : Type 0 where
  pub busy : IsBusyWindow system family a b
  pub covers : CoversRetries system family charges a b

-- the attempt on the object that a job begins in its first slot is spoiled by a loud win before b, whether it is decided before b or not
pub record IsSpoiledAttempt (system : System) (b : ℕ) (job : Job) (first object : ℕ) : Type 0 where
  pub call : Call
  pub begins : slot_at system first ≡ Busy job
  pub fresh : (so_far system job first).made ≡ 0
  pub asks : item_at system job (so_far system job first).complete ≡ Some (Op object call)
  pub last : ℕ
  pub before : last ≤ b
  pub spoiled : IsSpoiled system object first last
  pub held : IsHeld system last job first

-- the charges cover what is spoiled: each attempt of the family that begins in the window and is spoiled in it, decided or not
abbrev pub CoversSpoiled : System → (Job → Bool) → (ℕ → ℕ) → ℕ → ℕ → Type 0
CoversSpoiled system family charges a b = (job by : Job) (first object at : ℕ) → family job ≡ true → a ≤ first → first < b
    → IsSpoiledAttempt system b job first object → IsFirstPreemption system first at job by → attempt_cost system object ≤ charges by.task

-- a job of the family that is released in the slots from a to b - 1
abbrev pub is_released_in : System → (Job → Bool) → ℕ → ℕ → Job → Bool
is_released_in system family a b job = family job && (nat_le a (release system job) && nat_lt (release system job) b)

-- the stated cost of a job if it is one of these, and the sum over all jobs
abbrev pub demand_of : System → (Job → Bool) → ℕ → ℕ → Job → ℕ
demand_of system family a b job = if is_released_in system family a b job then cost system job.task else 0

abbrev pub demand : System → (Job → Bool) → ℕ → ℕ → ℕ
demand system family a b = total_jobs system b (demand_of system family a b)

-- what an event is charged: a preemption strictly between a and b, of a job of the family by one of the family
abbrev pub paid : (Job → Bool) → (ℕ → ℕ) → ℕ → ℕ → Event → ℕ
paid family charges a b (Preempt at job by) = if nat_lt a at && (nat_lt at b && (family job && family by)) then charges by.task else 0
paid family charges a b (Miss at job) = 0
paid family charges a b (Release at job) = 0
paid family charges a b (Reply at first job item reply tag) = 0
paid family charges a b (Retry at first job item expected found) = 0
paid family charges a b (Finish at job) = 0

-- the charges of all preemptions among the family in the window
abbrev pub charge : System → (Job → Bool) → (ℕ → ℕ) → ℕ → ℕ → ℕ
charge system family charges a b = sum_by (paid family charges a b) (events system b)

-- a job that is released at a or after, and due at b or before
abbrev pub is_due_in : System → ℕ → ℕ → Job → Bool
is_due_in system a b job = nat_le a (release system job) && nat_le (due system job) b

-- the stated cost of a job and the charge of its task, if it is one of these, and the sum over all jobs
abbrev pub due_of : System → (ℕ → ℕ) → ℕ → ℕ → Job → ℕ
due_of system charges a b job = if is_due_in system a b job then cost system job.task + charges job.task else 0

abbrev pub due_demand : System → (ℕ → ℕ) → ℕ → ℕ → ℕ
due_demand system charges a b = total_jobs system b (due_of system charges a b)
