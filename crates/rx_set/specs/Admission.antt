-- The admission tests: whether the tasks fit the processor, although attempts may be repeated. Both charge each release with
-- one lost attempt of those that it can preempt.
use Rattle.std.specs.Prelude.{ℕ, zero, suc, ◌+◌, ◌-◌, ◌*◌, ◌/◌, ◌==◌, ◌≤◌, ◌<◌, nat_le, nat_lt, Bool, true, false, if◌then◌else◌, length, filter, get_or, Option, Some, None}
use Rattle.rx_set.specs.System.{System, task_at, numbers, rank, cost}
use Rattle.rx_set.specs.Charges.{charge, charge_edf, where_passed}

-- f 0 + f 1 + .. + f (n - 1)
abbrev pub total : (ℕ → ℕ) → ℕ → ℕ
total f zero = 0
total f (suc n) = total f n + f n

-- the earlier number, if there is one, and else this one, if it passes
abbrev pub or_this : Option ℕ → Bool → ℕ → Option ℕ
or_this (Some earlier) passes n = Some earlier
or_this None true n = Some n
or_this None false n = None

-- the least number from 1 to n that passes a test, if one does
abbrev pub first_to : (ℕ → Bool) → ℕ → Option ℕ
first_to test zero = None
first_to test (suc n) = or_this (first_to test n) (test (suc n)) (suc n)

-- a number is not there
abbrev pub is_none : Option ℕ → Bool
is_none None = true
is_none (Some t) = false

-- the task that has a rank
abbrev pub ranked_task : System → ℕ → ℕ
ranked_task system place = get_or (filter (λ task. rank system task == place) (numbers (length system.tasks))) 0 0

-- t / period, rounded up: how many jobs of a task are released in t ticks, at most
abbrev pub ceiling : ℕ → ℕ → ℕ
ceiling t period = (t + period - 1) / period

-- what a task's jobs need in t ticks, if its rank is at most a given one
abbrev pub cost_to : System → ℕ → ℕ → ℕ → ℕ
cost_to system place t task = if nat_le (rank system task) place then ceiling t (task_at system task).period * cost system task else 0

-- what a task's jobs that are released strictly inside t ticks are charged, if its rank is below a given one: each can
-- preempt a job of a rank up to that one, whose attempt is then lost
abbrev pub charge_to : System → (ℕ → ℕ) → ℕ → ℕ → ℕ → ℕ
charge_to system charges place t task = where_passed (nat_lt (rank system task) place) (ceiling (t - 1) (task_at system task).period * charges task)

-- what the tasks up to a rank need in t ticks, with any charges: their stated costs for each release, and the charge of each
-- release of the earlier ones strictly inside
abbrev pub charged_need : System → (ℕ → ℕ) → ℕ → ℕ → ℕ
charged_need system charges place t = total (cost_to system place t) (length system.tasks) + total (charge_to system charges place t) (length system.tasks)

-- a task is charged by its rank
abbrev pub charge_of : System → ℕ → ℕ → ℕ
charge_of system place task = charge system place (rank system task)

-- what the tasks up to a rank need in t ticks
abbrev pub need : System → ℕ → ℕ → ℕ
need system place t = charged_need system (charge_of system place) place t

-- t ticks serve a task: they are no more than its deadline, and what its rank and those before it need in them fits into them
pub record Serves (system : System) (task t : ℕ) : Type 0 where
  pub some : 1 ≤ t
  pub in_time : t ≤ (task_at system task).deadline
  pub fits : need system (rank system task) t ≤ t

-- The test for fixed priorities: each task is served by some t
abbrev pub EachIsServed : System → Type 0
EachIsServed system = (task : ℕ) → task < length system.tasks → (t : ℕ) × Serves system task t

-- the least t that serves the task of a rank
abbrev pub least_time : System → ℕ → Option ℕ
least_time system place = first_to (λ t. nat_le (need system place t) t) (task_at system (ranked_task system place)).deadline

-- the least rank that no t serves
abbrev pub unserved : System → Option ℕ
unserved system = first_to (λ place. is_none (least_time system place)) (length system.tasks)

-- how many jobs of a task are released and due in t ticks, at most
abbrev pub due_jobs : ℕ → ℕ → ℕ → ℕ
due_jobs t period deadline = (t + period - deadline) / period

-- what the jobs of a task that are released and due in t ticks need, each with the attempt that it can cost another job
abbrev pub due_cost : System → ℕ → ℕ → ℕ
due_cost system t task = due_jobs t (task_at system task).period (task_at system task).deadline * (cost system task + charge_edf system task)

-- what all tasks need for the jobs that are released and due in t ticks
abbrev pub due_need : System → ℕ → ℕ
due_need system t = total (due_cost system t) (length system.tasks)

-- The test for earliest deadlines first: for each t, what is released and due in t ticks fits into them
abbrev pub EachSpanFits : System → Type 0
EachSpanFits system = (t : ℕ) → 1 ≤ t → due_need system t ≤ t
