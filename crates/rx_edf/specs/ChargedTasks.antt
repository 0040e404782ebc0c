-- What the test looks at in each task, and the sums over all tasks that it is made of.
use Rattle.std.specs.Prelude.{ℕ, zero, suc, ◌+◌, ◌-◌, ◌*◌, ◌/◌, ◌%◌, ◌==◌, ◌≤◌, ◌<◌, List, length, get_or, map, Option, Some, None}
use Rattle.rx_set.specs.System.{System, task_at, numbers, cost}
use Rattle.rx_set.specs.Charges.{charge_edf}
use Rattle.rx_set.specs.Admission.{total, first_to, due_jobs}
use Rattle.rx_edf.specs.declared.charged_tasks.ChargedTask.{ChargedTask}

-- the period and the deadline of a task, and what each of its jobs is charged with: its stated cost, and the attempt that its
-- release can cost a job of a longer deadline
abbrev pub charged_task_of : System → ℕ → ChargedTask
charged_task_of system task = record { period = (task_at system task).period; deadline = (task_at system task).deadline; cost = cost system task + charge_edf system task }

-- the same of all tasks, in file order
abbrev pub charged_tasks_of : System → List ChargedTask
charged_tasks_of system = map (charged_task_of system) (numbers (length system.tasks))

-- a charged task that stands where there is none; the one at a place, from 0
abbrev pub no_charged_task : ChargedTask
no_charged_task = record { period = 0; deadline = 0; cost = 0 }

abbrev pub charged_task_at : List ChargedTask → ℕ → ChargedTask
charged_task_at charged place = get_or charged place no_charged_task

-- the sum of a value of each charged task
abbrev pub sum_over : (ChargedTask → ℕ) → List ChargedTask → ℕ
sum_over value charged = total (λ place. value (charged_task_at charged place)) (length charged)

-- the limits of a charged task in a valid system, and of all of them
pub record IsChargedTask (task : ChargedTask) : Type 0 where
  pub period : (1 ≤ task.period) × (task.period ≤ 1000000)
  pub deadline : (1 ≤ task.deadline) × (task.deadline ≤ task.period)
  pub cost : (1 ≤ task.cost) × (task.cost ≤ 67108864)

pub record AreChargedTasks (charged : List ChargedTask) : Type 0 where
  pub some : 1 ≤ length charged
  pub few : length charged ≤ 64
  pub each : (place : ℕ) → place < length charged → IsChargedTask (charged_task_at charged place)

-- a number that is there, and else 0
abbrev pub or_zero : Option ℕ → ℕ
or_zero (Some n) = n
or_zero None = 0

-- the least multiple of a number that another one divides
abbrev pub common : ℕ → ℕ → ℕ
common a b = a * or_zero (first_to (λ k. a * k % b == 0) b)

-- the least common multiple of the first n periods, and that of all: the ticks after which releases repeat
abbrev pub cycle_to : List ChargedTask → ℕ → ℕ
cycle_to charged zero = 1
cycle_to charged (suc n) = common (cycle_to charged n) (charged_task_at charged n).period

abbrev pub cycle_of : List ChargedTask → ℕ
cycle_of charged = cycle_to charged (length charged)

-- what the jobs that are released in a cycle are charged with
abbrev pub work_of_task : ℕ → ChargedTask → ℕ
work_of_task cycle task = task.cost * (cycle / task.period)

abbrev pub work_of : List ChargedTask → ℕ → ℕ
work_of charged cycle = sum_over (work_of_task cycle) charged

-- by how much deadlines are shorter than periods: by nothing where each deadline is its period
abbrev pub shortening_of_task : ChargedTask → ℕ
shortening_of_task task = task.period - task.deadline

abbrev pub shortening_of : List ChargedTask → ℕ
shortening_of charged = sum_over shortening_of_task charged

-- by how much deadlines are shorter than periods, weighted with the work in a cycle
abbrev pub weighted_shortening_of_task : ℕ → ChargedTask → ℕ
weighted_shortening_of_task cycle task = (task.period - task.deadline) * (cycle / task.period) * task.cost

abbrev pub weighted_shortening_of : List ChargedTask → ℕ → ℕ
weighted_shortening_of charged cycle = sum_over (weighted_shortening_of_task cycle) charged

-- how many times of t ticks or less there are at which a job of each task is due, where all are released at 0
abbrev pub points_of_task : ℕ → ChargedTask → ℕ
points_of_task t task = due_jobs t task.period task.deadline

abbrev pub points_up_to : List ChargedTask → ℕ → ℕ
points_up_to charged t = sum_over (points_of_task t) charged

-- what the jobs that are released and due in t ticks are charged with
abbrev pub need_of_task : ℕ → ChargedTask → ℕ
need_of_task t task = due_jobs t task.period task.deadline * task.cost

abbrev pub need_in : List ChargedTask → ℕ → ℕ
need_in charged t = sum_over (need_of_task t) charged
