-- A system of tasks and objects, as clauses see it: releases, deadlines, ranks, keys, demands and costs.
use Rattle.std.specs.Prelude.{ℕ, zero, suc, ◌+◌, ◌-◌, ◌*◌, ◌==◌, ◌&&◌, ◌||◌, nat_lt, Bool, if◌then◌else◌, List, [], ◌∷◌, ◌++◌, length, get_or, slice_get, count_by, sum_by, map, Option, Some, None}
use Rattle.rx_seq.specs.declared.kinds.Part.{Part}
use Rattle.rx_seq.specs.Table.{attempt_steps}
use Rattle.rx_seq.specs.History.{part_at}
use Rattle.rx_set.specs.declared.policies.Policy.{Policy}
use Rattle.rx_set.specs.declared.policies.Policy.TheVariants.{Rm, Dm, Edf}
use Rattle.rx_set.specs.declared.demands.Demand.{Demand}
use Rattle.rx_set.specs.declared.items.Item.{Item}
use Rattle.rx_set.specs.declared.items.Item.TheVariants.{Work, Op}
use Rattle.rx_set.specs.declared.jobs.Job.{Job}
use Rattle.rx_set.specs.declared.jobs.Key.{Key}

-- an object and a task as plain rows, without where they lie in memory
pub record ObjectRow : Type 0 where
  pub name : List ℕ
  pub part : Part

pub record TaskRow : Type 0 where
  pub name : List ℕ
  pub period : ℕ
  pub deadline : ℕ
  pub offset : ℕ
  pub items : List Item

-- a policy, and the objects, tasks and demand rows in file order, as plain rows. This is what clauses see of a
-- `TaskSet`
pub record System : Type 0 where
  pub policy : Policy
  pub objects : List ObjectRow
  pub tasks : List TaskRow
  pub demands : List Demand

-- a task that stands where there is none
abbrev pub no_task : TaskRow
no_task = record { name = []; period = 0; deadline = 0; offset = 0; items = [] }

-- the task of a number, from 0
abbrev pub task_at : System → ℕ → TaskRow
task_at system task = get_or system.tasks task no_task

-- the task of a job
abbrev pub task_of : System → Job → TaskRow
task_of system job = task_at system job.task

-- the part of an object
abbrev pub part_of_row : ObjectRow → Part
part_of_row row = row.part

-- the parts of the objects, in file order: their kinds and capacities
abbrev pub parts_of : System → List Part
parts_of system = map part_of_row system.objects

-- the numbers 0 to n - 1
abbrev pub numbers : ℕ → List ℕ
numbers zero = []
numbers (suc n) = numbers n ++ n ∷ []

-- job k of a task is released at its offset + (k - 1) * its period, and is due a deadline later
abbrev pub release : System → Job → ℕ
release system job = (task_of system job).offset + (job.number - 1) * (task_of system job).period

abbrev pub due : System → Job → ℕ
due system job = release system job + (task_of system job).deadline

-- what puts tasks in order: periods, deadlines, or the place in the file alone
abbrev pub span : Policy → TaskRow → ℕ
span Rm task = task.period
span Dm task = task.deadline
span Edf task = 0

-- a task comes before another if its span is shorter; ties go by file order
abbrev pub comes_before : ℕ → ℕ → ℕ → ℕ → Bool
comes_before span_a a span_b b = nat_lt span_a span_b || ((span_a == span_b) && nat_lt a b)

-- another task comes before this one
abbrev pub is_ahead : System → ℕ → ℕ → Bool
is_ahead system task other = comes_before (span system.policy (task_at system other)) other (span system.policy (task_at system task)) task

-- the place of a task in the order of periods (rate monotonic), of deadlines (deadline monotonic) or of the file
-- (earliest deadline first), from 1; ties go by file order
abbrev pub rank : System → ℕ → ℕ
rank system task = count_by (is_ahead system task) (numbers (length system.tasks)) + 1

-- the key of a job: its task's rank and its number, or the time when it is due, its task and its number
abbrev pub key_by : Policy → System → Job → Key
key_by Rm system job = record { first = rank system job.task; second = 0; third = job.number }
key_by Dm system job = record { first = rank system job.task; second = 0; third = job.number }
key_by Edf system job = record { first = due system job; second = job.task; third = job.number }

abbrev pub key : System → Job → Key
key system job = key_by system.policy system job

-- the first key is lower, and so has the higher priority: keys are compared part by part
abbrev pub is_below : Key → Key → Bool
is_below a b = nat_lt a.first b.first || ((a.first == b.first) && (nat_lt a.second b.second || ((a.second == b.second) && nat_lt a.third b.third)))

-- the ticks of a job's work item: the stated ones, or those of the demand row that names this item of this job
abbrev pub ticks_of : List Demand → Job → ℕ → ℕ → ℕ
ticks_of [] job item stated = stated
ticks_of (row ∷ rows) job item stated =
    if (row.task == job.task) && (row.job == job.number) && (row.item == item) then row.ticks else ticks_of rows job item stated

-- an item with the ticks that a job demands
abbrev pub demanded : List Demand → Job → ℕ → Option Item → Option Item
demanded rows job number (Some (Work ticks)) = Some (Work (ticks_of rows job number ticks))
demanded rows job number (Some (Op object call)) = Some (Op object call)
demanded rows job number None = None

-- the item of a job at a place from 0: that of its task, with the ticks that this job demands
abbrev pub item_at : System → Job → ℕ → Option Item
item_at system job place = demanded system.demands job (place + 1) (slice_get (task_of system job).items place)

-- the ticks of one attempt on an object, by its number: one for each step
abbrev pub attempt_cost : System → ℕ → ℕ
attempt_cost system object = attempt_steps (part_at (parts_of system) object)

-- the stated cost of an item: the ticks of work, or of one attempt
abbrev pub item_cost : System → Item → ℕ
item_cost system (Work ticks) = ticks
item_cost system (Op object call) = attempt_cost system object

-- the stated cost of a task: the sum of its work ticks and of one attempt for each of its operations
abbrev pub cost : System → ℕ → ℕ
cost system task = sum_by (item_cost system) (task_at system task).items

-- the larger of two numbers, and the largest of f 0 to f (n - 1), which is 0 where there is none
abbrev pub larger : ℕ → ℕ → ℕ
larger a b = if nat_lt a b then b else a

abbrev pub largest : (ℕ → ℕ) → ℕ → ℕ
largest f zero = 0
largest f (suc n) = larger (largest f n) (f n)

-- the ticks of one attempt of an item; work has none
abbrev pub retry_of : System → Option Item → ℕ
retry_of system None = 0
retry_of system (Some (Work ticks)) = 0
retry_of system (Some (Op object call)) = attempt_cost system object

-- the ticks of the longest attempt of a task's operations
abbrev pub retry_of_task : System → TaskRow → ℕ
retry_of_task system row = largest (λ place. retry_of system (slice_get row.items place)) (length row.items)

-- the ticks of the longest attempt of any operation in the set, which are none where there is no operation
abbrev pub retry_cost : System → ℕ
retry_cost system = largest (λ task. retry_of_task system (task_at system task)) (length system.tasks)
