-- What a reading gives: what its definition says, unless there was no memory.
use Rattle.std.specs.Prelude.{ℕ, ◌≡◌, ◌≢◌, ◌≤◌, List, [], length, get_or, map, false, None, Result, Ok, Err}
use Rattle.std.specs.List.{All}
use Rattle.rx_set.specs.declared.policies.Policy.TheVariants.{Rm}
use Rattle.rx_set.specs.declared.demands.Demand.{Demand}
use Rattle.rx_set.specs.Names.{has_repeat}
use Rattle.rx_set.specs.System.{ObjectRow, TaskRow, System, no_task}
use Rattle.rx_set.specs.Valid.{IsObjectRow, IsTaskRow, IsDemandRow, NamesOnce, object_name, task_name}
use Rattle.rx_file.specs.declared.faults.FileFault.{FileFault}
use Rattle.rx_file.specs.declared.faults.FileFault.TheVariants.{NoMemory}
use Rattle.rx_file.specs.declared.objects.ReadObject.{ReadObject}
use Rattle.rx_file.specs.declared.tasks.ReadTask.{ReadTask}
use Rattle.rx_file.specs.declared.shapes.Verb.{Verb}
use Rattle.rx_file.specs.declared.shapes.Shape.{Shape as Spelled}
use Rattle.rx_file.specs.declared.shapes.Shape.TheVariants as spelled
use Rattle.rx_file.specs.Shapes.{Shape, Work, On, call_with}

-- a fault is the one that is expected; want of memory says nothing
abbrev pub FaultGives : Result System FileFault → FileFault → Type 0
FaultGives expected NoMemory = Unit {0}
FaultGives expected fault = expected ≡ Err fault

-- an answer is the set or the fault that is expected, or want of memory, which is free
abbrev pub SetGives : Result System FileFault → Result System FileFault → Type 0
SetGives expected (Ok set) = expected ≡ Ok set
SetGives expected (Err fault) = FaultGives expected fault

-- the value that is expected, as the view shows it, or the fault
abbrev pub Shows : {X Y : Type 0} → (X → Y) → Result Y FileFault → Result X FileFault → Type 0
Shows view expected (Ok x) = expected ≡ Ok (view x)
Shows view expected (Err fault) = expected ≡ Err fault

-- the same of a part of a set, unless there was no memory
abbrev pub Gives : {X Y : Type 0} → (X → Y) → Result Y FileFault → Result X FileFault → Type 0
Gives view expected (Ok x) = expected ≡ Ok (view x)
Gives view expected (Err fault) = fault ≢ NoMemory → expected ≡ Err fault

-- what is shown of an object and of a task whose names lie in the document
abbrev pub read_object : ReadObject → ObjectRow
read_object object = record { name = object.name.now; part = object.part }

abbrev pub read_task : ReadTask → TaskRow
read_task task = record { name = task.name.now; period = task.period; deadline = task.deadline; offset = task.offset; items = task.items.items }

-- what a shape in memory spells
abbrev pub shape_view : Spelled → Shape
shape_view (spelled.Work ticks) = Work ticks
shape_view (spelled.On object call) = On object.now call

-- ticks of work are 1 to 1,000,000
abbrev pub HasTicks : Spelled → Type 0
HasTicks (spelled.Work ticks) = (1 ≤ ticks) × (ticks ≤ 1000000)
HasTicks (spelled.On object call) = Unit {0}

-- no call of any verb is complete with these words after the object's name
abbrev pub HaveNoCall : List (List ℕ) → Type 0
HaveNoCall words = (verb : Verb) → call_with verb words ≡ None

-- the system of some objects alone, among which items and tasks are judged
abbrev pub alone : List ObjectRow → System
alone objects = record { policy = Rm; objects = objects; tasks = []; demands = [] }

-- all rows are good, and their names differ
pub record AreRows {X : Type 0} (IsGood : X → Type 0) (name_of : X → List ℕ) (rows : List X) : Type 0 where
  pub good : All IsGood rows
  pub names : has_repeat (map name_of rows) ≡ false

abbrev pub AreObjects : List ObjectRow → Type 0
AreObjects rows = AreRows IsObjectRow object_name rows

abbrev pub AreTasks : List ObjectRow → List TaskRow → Type 0
AreTasks objects rows = AreRows (IsTaskRow (alone objects)) task_name rows

-- the system of some tasks alone, among which demand rows are judged
abbrev pub tasks_alone : List TaskRow → System
tasks_alone tasks = record { policy = Rm; objects = []; tasks = tasks; demands = [] }

-- no body has more than 64 items
abbrev pub HaveBodies : List TaskRow → Type 0
HaveBodies tasks = (task : ℕ) → length (get_or tasks task no_task).items ≤ 64

-- all demand rows are good, and no two name one item of one job
pub record AreDemands (tasks : List TaskRow) (rows : List Demand) : Type 0 where
  pub good : All (IsDemandRow (tasks_alone tasks)) rows
  pub once : NamesOnce rows
