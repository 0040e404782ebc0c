-- Which systems are valid.
use Rattle.std.specs.Prelude.{ℕ, ◌≡◌, ◌≤◌, ◌<◌, ◌-◌, ◌^◌, true, false, List, length, get_or, slice_get, map, Some}
use Rattle.rx_seq.specs.Table.{IsPart, fits_part}
use Rattle.rx_seq.specs.History.{part_at}
use Rattle.rx_set.specs.declared.demands.Demand.{Demand}
use Rattle.rx_set.specs.declared.items.Item.{Item}
use Rattle.rx_set.specs.declared.items.Item.TheVariants.{Work, Op}
use Rattle.rx_set.specs.declared.jobs.Job.{Job}
use Rattle.rx_set.specs.Names.{is_name, has_repeat}
use Rattle.rx_set.specs.System.{System, ObjectRow, TaskRow, task_at, parts_of}

-- a work item takes 1 to 1,000,000 ticks; an operation is a call that fits an object that is there
abbrev pub IsItem : System → Item → Type 0
IsItem system (Work ticks) = (1 ≤ ticks) × (ticks ≤ 1000000)
IsItem system (Op object call) = (object < length system.objects) × (fits_part (part_at (parts_of system) object) call ≡ true)

-- an item is one of work
abbrev pub IsWork : Item → Type 0
IsWork (Work ticks) = Unit {0}
IsWork (Op object call) = ⊥

-- the item of a task at a place from 0 is one of work, and so is that of a job
abbrev pub IsWorkItem : System → ℕ → ℕ → Type 0
IsWorkItem system task place = (stated : ℕ) × (slice_get (task_at system task).items place ≡ Some (Work stated))

abbrev pub IsWorkAt : System → Job → ℕ → Type 0
IsWorkAt system job place = IsWorkItem system job.task place

-- an object has a name, and a part in its limits
pub record IsObjectRow (row : ObjectRow) : Type 0 where
  pub name : is_name row.name ≡ true
  pub part : IsPart row.part

-- a task has a name, a period of 1 to 1,000,000 ticks, a deadline from 1 to the period, an offset of at most 1,000,000
-- ticks, and 1 to 64 items
pub record IsTaskRow (system : System) (row : TaskRow) : Type 0 where
  pub name : is_name row.name ≡ true
  pub period : (1 ≤ row.period) × (row.period ≤ 1000000)
  pub deadline : (1 ≤ row.deadline) × (row.deadline ≤ row.period)
  pub offset : row.offset ≤ 1000000
  pub some_items : (1 ≤ length row.items) × (length row.items ≤ 64)
  pub items : (place : ℕ) (item : Item) → slice_get row.items place ≡ Some item → IsItem system item

-- a demand row names a work item of a task and a job from 1 to 1,000,000, and gives 1 to 1,000,000 ticks
pub record IsDemandRow (system : System) (row : Demand) : Type 0 where
  pub task : row.task < length system.tasks
  pub job : (1 ≤ row.job) × (row.job ≤ 1000000)
  pub item : 1 ≤ row.item
  pub work : IsWorkItem system row.task (row.item - 1)
  pub ticks : (1 ≤ row.ticks) × (row.ticks ≤ 1000000)

-- two rows name one item of one job
pub record NameOneItem (a b : Demand) : Type 0 where
  pub task : a.task ≡ b.task
  pub job : a.job ≡ b.job
  pub item : a.item ≡ b.item

-- the name of a task, and of an object
abbrev pub task_name : TaskRow → List ℕ
task_name row = row.name

abbrev pub object_name : ObjectRow → List ℕ
object_name row = row.name

-- a demand row that stands where there is none
abbrev pub no_demand : Demand
no_demand = record { task = 0; job = 0; item = 0; ticks = 0 }

-- no two rows name one item of one job
abbrev pub NamesOnce : List Demand → Type 0
NamesOnce demands = (a b : ℕ) → a < b → b < length demands → ¬ NameOneItem (get_or demands a no_demand) (get_or demands b no_demand)

-- 1 to 64 tasks, at most 16 objects and 1,000 demand rows, each in its limits; names of tasks differ, and so do those
-- of objects; operations are calls that fit objects that are there; a demand row names a work item, and none is named
-- twice
pub record IsValid (system : System) : Type 0 where
  pub some_tasks : (1 ≤ length system.tasks) × (length system.tasks ≤ 64)
  pub few_objects : length system.objects ≤ 16
  pub few_demands : length system.demands ≤ 1000
  pub tasks : (task : ℕ) → task < length system.tasks → IsTaskRow system (task_at system task)
  pub objects : (object : ℕ) (row : ObjectRow) → slice_get system.objects object ≡ Some row → IsObjectRow row
  pub demands : (place : ℕ) (row : Demand) → slice_get system.demands place ≡ Some row → IsDemandRow system row
  pub task_names : has_repeat (map task_name system.tasks) ≡ false
  pub object_names : has_repeat (map object_name system.objects) ≡ false
  pub one_demand : NamesOnce system.demands

-- a system keeps its stated costs if no demand row has more ticks than its item states
pub record KeepsCosts (system : System) : Type 0 where
  pub each : (place : ℕ) (row : Demand) (stated : ℕ) → slice_get system.demands place ≡ Some row
      → slice_get (task_at system row.task).items (row.item - 1) ≡ Some (Work stated) → row.ticks ≤ stated

-- a job of a task that is there, with any number from 1 on
pub record IsJobOf (system : System) (job : Job) : Type 0 where
  pub task : job.task < length system.tasks
  pub number : 1 ≤ job.number

-- a job that keys and times can be asked of: of a task that is there, with a number from 1 to 2^40
pub record IsJob (system : System) (job : Job) : Type 0 where
  pub task : job.task < length system.tasks
  pub number : (1 ≤ job.number) × (job.number ≤ 2 ^ 40)
