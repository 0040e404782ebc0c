-- Worked files: documents, policies, demand rows, items, numbers and faults.
use Rattle.std.specs.Prelude.{ℕ, ◌≡◌, [], ◌∷◌, codes, Some, None, Ok, Err, refl}
use Rattle.rx_set.specs.declared.policies.Policy.TheVariants.{Rm, Dm, Edf}
use Rattle.rx_seq.specs.declared.kinds.Kind.TheVariants.{Cell, Queue, Registers, List as Ordered}
use Rattle.rx_seq.specs.declared.calls.Row.{Row}
use Rattle.rx_seq.specs.declared.calls.Call.TheVariants.{Get, Set, Add, Swap, Put, Take, Insert, Remove, Has, Read, Shift, Multi}
use Rattle.rx_set.specs.declared.items.Item.TheVariants.{Work, Op}
use Rattle.rx_file.specs.declared.faults.Section.TheVariants as section
use Rattle.rx_file.specs.declared.faults.Label.TheVariants as label
use Rattle.rx_file.specs.declared.faults.FileFault.TheVariants.{NotToml, Field, Name, Repeat, Range, Item, Unknown, Misfit, TooMany}
use Rattle.rx_file.specs.Texts.{number_of, word_number, words_of}
use Rattle.rx_file.specs.Shapes.{shape_of, Work as WorkShape, On}
use Rattle.rx_file.specs.SetOf.{set_of}
use Rattle.rx_file.specs.OnLiterals.{file_on_literals}

-- what a transaction does with one register
abbrev pub change : ℕ → ℕ → ℕ → Row
change i old new = record { i = i; old = old; new = new }

-- two tasks
pub two_tasks : set_of (codes "task = [{name=\"a\", period=4, offset=1, body=[\"work 1\"]}, {name=\"b\", period=8, body=[\"work 3\"]}]") ≡ Ok (record {
  policy = Rm;
  objects = [];
  tasks = record { name = codes "a"; period = 4; deadline = 4; offset = 1; items = Work 1 ∷ [] } ∷ record { name = codes "b"; period = 8; deadline = 8; offset = 0; items = Work 3 ∷ [] } ∷ [];
  demands = [];
})
unfolding file_on_literals
two_tasks = refl

-- no bytes
pub no_bytes : set_of (codes "") ≡ Err (Field section.Top 0 label.Task)
unfolding file_on_literals
no_bytes = refl

-- no document
pub not_toml : set_of (codes "task = [") ≡ Err NotToml
unfolding file_on_literals
not_toml = refl

-- no row
pub no_rows : set_of (codes "task = []") ≡ Err (Range section.Top 0 label.Task)
unfolding file_on_literals
no_rows = refl

-- a table in place of an array of tables
pub no_array : set_of (codes "[task]") ≡ Err (Field section.Top 0 label.Task)
unfolding file_on_literals
no_array = refl

-- another key at the top
pub other_key : set_of (codes "tasks = []\ntask = [{}]") ≡ Err (Field section.Top 0 label.Other)
unfolding file_on_literals
other_key = refl

-- 65 tasks, whatever they are
pub many_tasks : set_of (codes "task = [0,0,0,0,0,0,0,0,0,0,0,0,0,0,0,0,0,0,0,0,0,0,0,0,0,0,0,0,0,0,0,0,0,0,0,0,0,0,0,0,0,0,0,0,0,0,0,0,0,0,0,0,0,0,0,0,0,0,0,0,0,0,0,0,0]") ≡ Err (TooMany section.Task 65)
unfolding file_on_literals
many_tasks = refl

-- a row that is no table
pub whole_row : set_of (codes "task = [1]") ≡ Err (Field section.Task 1 label.Whole)
unfolding file_on_literals
whole_row = refl

-- a name that begins with a digit
pub digit_first : set_of (codes "task = [{name=\"9a\", period=4, body=[\"work 1\"]}]") ≡ Err (Name section.Task 1)
unfolding file_on_literals
digit_first = refl

-- two tasks of one name
pub two_names : set_of (codes "task = [{name=\"a\", period=4, body=[\"work 1\"]}, {name=\"a\"}]") ≡ Err (Repeat section.Task 2)
unfolding file_on_literals
two_names = refl

-- a period that is text
pub text_period : set_of (codes "task = [{name=\"a\", period=\"10\", body=[\"work 1\"]}]") ≡ Err (Field section.Task 1 label.Period)
unfolding file_on_literals
text_period = refl

-- a period of 0
pub period_range : set_of (codes "task = [{name=\"a\", period=0}]") ≡ Err (Range section.Task 1 label.Period)
unfolding file_on_literals
period_range = refl

-- a deadline after the period
pub late_deadline : set_of (codes "task = [{name=\"a\", period=10, deadline=11, body=[\"work 1\"]}]") ≡ Err (Range section.Task 1 label.Deadline)
unfolding file_on_literals
late_deadline = refl

-- an offset below 0
pub offset_range : set_of (codes "task = [{name=\"a\", period=10, offset=-1}]") ≡ Err (Range section.Task 1 label.Offset)
unfolding file_on_literals
offset_range = refl

-- no item
pub no_body : set_of (codes "task = [{name=\"a\", period=10, body=[]}]") ≡ Err (Range section.Task 1 label.Body)
unfolding file_on_literals
no_body = refl

-- another key of a task, which comes before its items
pub other_task_key : set_of (codes "task = [{name=\"a\", period=10, body=[\"rest\"], x=1}]") ≡ Err (Field section.Task 1 label.Other)
unfolding file_on_literals
other_task_key = refl

-- an item of no work
pub no_work : set_of (codes "task = [{name=\"a\", period=10, body=[\"work 0\"]}]") ≡ Err (Item 1 1)
unfolding file_on_literals
no_work = refl

-- an item of no shape, after one that is work
pub no_shape : set_of (codes "task = [{name=\"a\", period=10, body=[\"work 1\", \"work 1 2\"]}]") ≡ Err (Item 1 2)
unfolding file_on_literals
no_shape = refl

-- a cell, and an item of each call on it
pub one_cell : set_of (codes "object = [{name=\"c\", kind=\"cell\"}]\ntask = [{name=\"c\", period=9, body=[\"get c\", \"set c 5\", \"work 1\", \"add c 16777215\", \"swap c 5 6\"]}]") ≡ Ok (record {
  policy = Rm;
  objects = record { name = codes "c"; part = record { kind = Cell; cap = 1 } } ∷ [];
  tasks = record { name = codes "c"; period = 9; deadline = 9; offset = 0; items = Op 0 Get ∷ Op 0 (Set 5) ∷ Work 1 ∷ Op 0 (Add 16777215) ∷ Op 0 (Swap 5 6) ∷ [] } ∷ [];
  demands = [];
})
unfolding file_on_literals
one_cell = refl

-- the second of two cells, of which nobody uses the first
pub second_cell : set_of (codes "object = [{name=\"a\", kind=\"cell\"}, {name=\"b\", kind=\"cell\"}]\ntask = [{name=\"t\", period=9, body=[\"get b\"]}]") ≡ Ok (record {
  policy = Rm;
  objects = record { name = codes "a"; part = record { kind = Cell; cap = 1 } } ∷ record { name = codes "b"; part = record { kind = Cell; cap = 1 } } ∷ [];
  tasks = record { name = codes "t"; period = 9; deadline = 9; offset = 0; items = Op 1 Get ∷ [] } ∷ [];
  demands = [];
})
unfolding file_on_literals
second_cell = refl

-- a table in place of an array of objects, which comes before the tasks
pub no_object_array : set_of (codes "[object]") ≡ Err (Field section.Top 0 label.Object)
unfolding file_on_literals
no_object_array = refl

-- 17 objects, whatever they are
pub many_objects : set_of (codes "object = [0,0,0,0,0,0,0,0,0,0,0,0,0,0,0,0,0]") ≡ Err (TooMany section.Object 17)
unfolding file_on_literals
many_objects = refl

-- an object that is no table, which comes before the rows of tasks
pub whole_object : set_of (codes "object = [1]\ntask = [1]") ≡ Err (Field section.Object 1 label.Whole)
unfolding file_on_literals
whole_object = refl

pub no_object_name : set_of (codes "object = [{}]\ntask = [1]") ≡ Err (Field section.Object 1 label.Name)
unfolding file_on_literals
no_object_name = refl

pub object_name_form : set_of (codes "object = [{name=\"_\"}]\ntask = [1]") ≡ Err (Name section.Object 1)
unfolding file_on_literals
object_name_form = refl

-- two objects of one name
pub two_objects : set_of (codes "object = [{name=\"c\", kind=\"cell\"}, {name=\"c\"}]\ntask = [1]") ≡ Err (Repeat section.Object 2)
unfolding file_on_literals
two_objects = refl

pub no_kind : set_of (codes "object = [{name=\"c\"}]\ntask = [1]") ≡ Err (Field section.Object 1 label.Kind)
unfolding file_on_literals
no_kind = refl

-- a word that is no kind
pub stack_kind : set_of (codes "object = [{name=\"s\", kind=\"stack\", capacity=4}]\ntask = [1]") ≡ Err (Range section.Object 1 label.Kind)
unfolding file_on_literals
stack_kind = refl

-- an object of each kind
pub each_kind : set_of (codes "object = [{name=\"c\", kind=\"cell\"}, {name=\"q\", kind=\"queue\", capacity=64}, {name=\"l\", kind=\"list\", capacity=1}, {name=\"r\", kind=\"registers\", capacity=16}]\ntask = [{name=\"t\", period=9, body=[\"work 1\"]}]") ≡ Ok (record {
  policy = Rm;
  objects =
      record { name = codes "c"; part = record { kind = Cell; cap = 1 } }
      ∷ record { name = codes "q"; part = record { kind = Queue; cap = 64 } }
      ∷ record { name = codes "l"; part = record { kind = Ordered; cap = 1 } }
      ∷ record { name = codes "r"; part = record { kind = Registers; cap = 16 } } ∷ [];
  tasks = record { name = codes "t"; period = 9; deadline = 9; offset = 0; items = Work 1 ∷ [] } ∷ [];
  demands = [];
})
unfolding file_on_literals
each_kind = refl

-- a queue, a list and registers must have a capacity in its range
pub no_capacity : set_of (codes "object = [{name=\"q\", kind=\"queue\"}]\ntask = [1]") ≡ Err (Field section.Object 1 label.Capacity)
unfolding file_on_literals
no_capacity = refl

pub text_capacity : set_of (codes "object = [{name=\"l\", kind=\"list\", capacity=\"4\"}]\ntask = [1]") ≡ Err (Field section.Object 1 label.Capacity)
unfolding file_on_literals
text_capacity = refl

pub zero_capacity : set_of (codes "object = [{name=\"l\", kind=\"list\", capacity=0}]\ntask = [1]") ≡ Err (Range section.Object 1 label.Capacity)
unfolding file_on_literals
zero_capacity = refl

pub queue_capacity : set_of (codes "object = [{name=\"q\", kind=\"queue\", capacity=65}]\ntask = [1]") ≡ Err (Range section.Object 1 label.Capacity)
unfolding file_on_literals
queue_capacity = refl

pub registers_capacity : set_of (codes "object = [{name=\"r\", kind=\"registers\", capacity=17}]\ntask = [1]") ≡ Err (Range section.Object 1 label.Capacity)
unfolding file_on_literals
registers_capacity = refl

-- a cell with a capacity
pub cell_capacity : set_of (codes "object = [{name=\"c\", kind=\"cell\", capacity=1}]\ntask = [1]") ≡ Err (Field section.Object 1 label.Capacity)
unfolding file_on_literals
cell_capacity = refl

-- another key of an object
pub other_object_key : set_of (codes "object = [{name=\"c\", kind=\"cell\", size=1}]\ntask = [1]") ≡ Err (Field section.Object 1 label.Other)
unfolding file_on_literals
other_object_key = refl

-- a call on an object that is not there
pub unknown_object : set_of (codes "object = [{name=\"c\", kind=\"cell\"}]\ntask = [{name=\"t\", period=9, body=[\"get c\", \"get d\"]}]") ≡ Err (Unknown 1 2)
unfolding file_on_literals
unknown_object = refl

-- a value of 25 bits
pub misfit : set_of (codes "object = [{name=\"c\", kind=\"cell\"}]\ntask = [{name=\"t\", period=9, body=[\"set c 16777216\"]}]") ≡ Err (Misfit 1 1)
unfolding file_on_literals
misfit = refl

-- a call of another kind
pub other_kind : set_of (codes "object = [{name=\"q\", kind=\"queue\", capacity=4}]\ntask = [{name=\"t\", period=9, body=[\"put q 1\", \"get q\"]}]") ≡ Err (Misfit 1 2)
unfolding file_on_literals
other_kind = refl

-- a register that is not there, and one that is named twice
pub far_register : set_of (codes "object = [{name=\"r\", kind=\"registers\", capacity=4}]\ntask = [{name=\"t\", period=9, body=[\"read r 4\"]}]") ≡ Err (Misfit 1 1)
unfolding file_on_literals
far_register = refl

pub register_twice : set_of (codes "object = [{name=\"r\", kind=\"registers\", capacity=4}]\ntask = [{name=\"t\", period=9, body=[\"multi r 1 0 5 1 0 6\"]}]") ≡ Err (Misfit 1 1)
unfolding file_on_literals
register_twice = refl

-- the policy `rm`
pub rm_policy : set_of (codes "policy = \"rm\"\ntask = [{name=\"a\", period=4, body=[\"work 1\"]}]") ≡ Ok (record {
  policy = Rm;
  objects = [];
  tasks = record { name = codes "a"; period = 4; deadline = 4; offset = 0; items = Work 1 ∷ [] } ∷ [];
  demands = [];
})
unfolding file_on_literals
rm_policy = refl

-- the policy `dm`
pub dm_policy : set_of (codes "policy = \"dm\"\ntask = [{name=\"a\", period=4, body=[\"work 1\"]}]") ≡ Ok (record {
  policy = Dm;
  objects = [];
  tasks = record { name = codes "a"; period = 4; deadline = 4; offset = 0; items = Work 1 ∷ [] } ∷ [];
  demands = [];
})
unfolding file_on_literals
dm_policy = refl

-- the policy `edf`
pub edf_policy : set_of (codes "policy = \"edf\"\ntask = [{name=\"a\", period=4, body=[\"work 1\"]}]") ≡ Ok (record {
  policy = Edf;
  objects = [];
  tasks = record { name = codes "a"; period = 4; deadline = 4; offset = 0; items = Work 1 ∷ [] } ∷ [];
  demands = [];
})
unfolding file_on_literals
edf_policy = refl

-- a policy that is no word, which comes before the array of objects
pub number_policy : set_of (codes "policy = 1\nobject = 1") ≡ Err (Field section.Top 0 label.Policy)
unfolding file_on_literals
number_policy = refl

-- a word that is no policy
pub other_policy : set_of (codes "policy = \"RM\"\nobject = 1") ≡ Err (Range section.Top 0 label.Policy)
unfolding file_on_literals
other_policy = refl

-- a table in place of an array of demand rows, which comes after the tasks and before other keys
pub no_demand_array : set_of (codes "demand = {}\ntask = [0]\nx = 0") ≡ Err (Field section.Top 0 label.Demand)
unfolding file_on_literals
no_demand_array = refl

pub task_before_demand : set_of (codes "demand = 0\ntask = 0") ≡ Err (Field section.Top 0 label.Task)
unfolding file_on_literals
task_before_demand = refl

-- demand rows of two jobs
pub two_jobs : set_of (codes "task = [{name=\"a\", period=4, body=[\"work 1\"]}]\ndemand = [{task=\"a\", job=1, item=1, ticks=2}, {ticks=1000000, item=1, job=1000000, task=\"a\"}]") ≡ Ok (record {
  policy = Rm;
  objects = [];
  tasks = record { name = codes "a"; period = 4; deadline = 4; offset = 0; items = Work 1 ∷ [] } ∷ [];
  demands = record { task = 0; job = 1; item = 1; ticks = 2 } ∷ record { task = 0; job = 1000000; item = 1; ticks = 1000000 } ∷ [];
})
unfolding file_on_literals
two_jobs = refl

-- a demand row is looked at after the rows of tasks
pub task_row_first : set_of (codes "demand = [0]\ntask = [0]") ≡ Err (Field section.Task 1 label.Whole)
unfolding file_on_literals
task_row_first = refl

-- a demand row that is no table
pub whole_demand : set_of (codes "task = [{name=\"a\", period=4, body=[\"work 1\"]}]\ndemand = [0]") ≡ Err (Field section.Demand 1 label.Whole)
unfolding file_on_literals
whole_demand = refl

-- a demand row must name a task
pub no_demand_task : set_of (codes "task = [{name=\"a\", period=4, body=[\"work 1\"]}]\ndemand = [{job=0}]") ≡ Err (Field section.Demand 1 label.Task)
unfolding file_on_literals
no_demand_task = refl

pub number_task : set_of (codes "task = [{name=\"a\", period=4, body=[\"work 1\"]}]\ndemand = [{task=1}]") ≡ Err (Field section.Demand 1 label.Task)
unfolding file_on_literals
number_task = refl

-- a task that is not there, which comes before the job
pub unknown_task : set_of (codes "task = [{name=\"a\", period=4, body=[\"work 1\"]}]\ndemand = [{task=\"b\", job=0}]") ≡ Err (Range section.Demand 1 label.Task)
unfolding file_on_literals
unknown_task = refl

-- the job is a number from 1 to 1,000,000
pub no_job : set_of (codes "task = [{name=\"a\", period=4, body=[\"work 1\"]}]\ndemand = [{task=\"a\", item=0}]") ≡ Err (Field section.Demand 1 label.Job)
unfolding file_on_literals
no_job = refl

pub zero_job : set_of (codes "task = [{name=\"a\", period=4, body=[\"work 1\"]}]\ndemand = [{task=\"a\", job=0, item=0}]") ≡ Err (Range section.Demand 1 label.Job)
unfolding file_on_literals
zero_job = refl

pub far_job : set_of (codes "task = [{name=\"a\", period=4, body=[\"work 1\"]}]\ndemand = [{task=\"a\", job=1000001, item=0}]") ≡ Err (Range section.Demand 1 label.Job)
unfolding file_on_literals
far_job = refl

-- the item is the number of a work item in the body
pub no_item : set_of (codes "task = [{name=\"a\", period=4, body=[\"work 1\"]}]\ndemand = [{task=\"a\", job=1, ticks=0}]") ≡ Err (Field section.Demand 1 label.Item)
unfolding file_on_literals
no_item = refl

pub zero_item : set_of (codes "task = [{name=\"a\", period=4, body=[\"work 1\"]}]\ndemand = [{task=\"a\", job=1, item=0, ticks=0}]") ≡ Err (Range section.Demand 1 label.Item)
unfolding file_on_literals
zero_item = refl

pub far_item : set_of (codes "task = [{name=\"a\", period=4, body=[\"work 1\"]}]\ndemand = [{task=\"a\", job=1, item=2, ticks=0}]") ≡ Err (Range section.Demand 1 label.Item)
unfolding file_on_literals
far_item = refl

-- a call is no work
pub operation_item : set_of (codes "object = [{name=\"c\", kind=\"cell\"}]\ntask = [{name=\"a\", period=4, body=[\"work 1\", \"get c\"]}]\ndemand = [{task=\"a\", job=1, item=1, ticks=1}, {task=\"a\", job=1, item=2, ticks=1}]") ≡ Err (Range section.Demand 2 label.Item)
unfolding file_on_literals
operation_item = refl

-- the ticks are a number from 1 to 1,000,000
pub no_ticks : set_of (codes "task = [{name=\"a\", period=4, body=[\"work 1\"]}]\ndemand = [{task=\"a\", job=1, item=1, x=0}]") ≡ Err (Field section.Demand 1 label.Ticks)
unfolding file_on_literals
no_ticks = refl

pub zero_ticks : set_of (codes "task = [{name=\"a\", period=4, body=[\"work 1\"]}]\ndemand = [{task=\"a\", job=1, item=1, ticks=0, x=0}]") ≡ Err (Range section.Demand 1 label.Ticks)
unfolding file_on_literals
zero_ticks = refl

pub long_ticks : set_of (codes "task = [{name=\"a\", period=4, body=[\"work 1\"]}]\ndemand = [{task=\"a\", job=1, item=1, ticks=1000001, x=0}]") ≡ Err (Range section.Demand 1 label.Ticks)
unfolding file_on_literals
long_ticks = refl

-- another key of a demand row
pub other_demand_key : set_of (codes "task = [{name=\"a\", period=4, body=[\"work 1\"]}]\ndemand = [{task=\"a\", job=1, item=1, ticks=1, x=0}]") ≡ Err (Field section.Demand 1 label.Other)
unfolding file_on_literals
other_demand_key = refl

-- an item of a job that an earlier row names, whatever its ticks
pub demand_twice : set_of (codes "task = [{name=\"a\", period=4, body=[\"work 1\"]}]\ndemand = [{task=\"a\", job=1, item=1, ticks=2}, {task=\"a\", job=2, item=1, ticks=2}, {task=\"a\", job=1, item=1, ticks=3}]") ≡ Err (Repeat section.Demand 3)
unfolding file_on_literals
demand_twice = refl

-- the shape comes before the object's name
pub shape_first : set_of (codes "task = [{name=\"t\", period=9, body=[\"add nosuch x\"]}]") ≡ Err (Item 1 1)
unfolding file_on_literals
shape_first = refl

-- words are cut at spaces alone, and a number may begin with zeros
pub spaced_work : shape_of (words_of (codes "  work   0003 ")) ≡ Some (WorkShape 3)
spaced_work = refl

pub tab_work : shape_of (words_of (codes "work\t3")) ≡ None
tab_work = refl

pub spaced_swap : shape_of (words_of (codes " swap  c  1 02")) ≡ Some (On (codes "c") (Swap 1 2))
spaced_swap = refl

pub tab_name : shape_of (words_of (codes "get c\t")) ≡ Some (On (codes "c\t") Get)
tab_name = refl

-- the shapes of calls on queues, lists and registers
pub put_item : shape_of (words_of (codes "put q 4294967295")) ≡ Some (On (codes "q") (Put 4294967295))
put_item = refl

pub take_item : shape_of (words_of (codes "take q")) ≡ Some (On (codes "q") Take)
take_item = refl

pub insert_item : shape_of (words_of (codes "insert l 3")) ≡ Some (On (codes "l") (Insert 3))
insert_item = refl

pub remove_item : shape_of (words_of (codes "remove l 3")) ≡ Some (On (codes "l") (Remove 3))
remove_item = refl

pub has_item : shape_of (words_of (codes "has l 3")) ≡ Some (On (codes "l") (Has 3))
has_item = refl

pub read_item : shape_of (words_of (codes "read r 2")) ≡ Some (On (codes "r") (Read 2))
read_item = refl

-- from one register to another, and then how much
pub shift_item : shape_of (words_of (codes "shift r 3 0 8")) ≡ Some (On (codes "r") (Shift 3 0 8))
shift_item = refl

-- a register, its old value and its new one, up to four times; zeros stand for the rows that are left out
pub multi_item : shape_of (words_of (codes "multi r 7 8 9")) ≡ Some (On (codes "r") (Multi 1 (change 7 8 9 ∷ change 0 0 0 ∷ change 0 0 0 ∷ change 0 0 0 ∷ [])))
multi_item = refl

pub two_rows : shape_of (words_of (codes "multi r 1 2 3 4 5 6")) ≡ Some (On (codes "r") (Multi 2 (change 1 2 3 ∷ change 4 5 6 ∷ change 0 0 0 ∷ change 0 0 0 ∷ [])))
two_rows = refl

pub three_rows : shape_of (words_of (codes "multi r 1 2 3 4 5 6 7 8 9")) ≡ Some (On (codes "r") (Multi 3 (change 1 2 3 ∷ change 4 5 6 ∷ change 7 8 9 ∷ change 0 0 0 ∷ [])))
three_rows = refl

pub four_rows : shape_of (words_of (codes "multi r 0 0 5 1 0 6 2 0 7 3 0 8")) ≡ Some (On (codes "r") (Multi 4 (change 0 0 5 ∷ change 1 0 6 ∷ change 2 0 7 ∷ change 3 0 8 ∷ [])))
four_rows = refl

-- no row, a row of two numbers, a fifth row
pub multi_no_rows : shape_of (words_of (codes "multi r")) ≡ None
multi_no_rows = refl

pub short_row : shape_of (words_of (codes "multi r 0 0 5 1 0")) ≡ None
short_row = refl

pub five_rows : shape_of (words_of (codes "multi r 0 0 0 1 0 0 2 0 0 3 0 0 4 0 0")) ≡ None
five_rows = refl

-- too few numbers, too many, and a number word that is none
pub short_swap : shape_of (words_of (codes "swap c 1")) ≡ None
short_swap = refl

pub long_get : shape_of (words_of (codes "get c 1")) ≡ None
long_get = refl

pub long_swap : shape_of (words_of (codes "swap c 1 2 3")) ≡ None
long_swap = refl

pub no_object : shape_of (words_of (codes "get")) ≡ None
no_object = refl

pub wide_set : shape_of (words_of (codes "set c 4294967296")) ≡ None
wide_set = refl

-- a number word has at most ten digits and a value below 2 ^ 32
pub most_number : word_number (codes "4294967295") ≡ Some 4294967295
most_number = refl

pub wide_number : word_number (codes "4294967296") ≡ None
wide_number = refl

pub long_number : word_number (codes "00000000001") ≡ None
long_number = refl

-- a number of up to twenty digits
pub twenty_digits : number_of 20 (codes "99999999999999999999") ≡ Some 99999999999999999999
twenty_digits = refl

pub no_digits : number_of 20 (codes "-1") ≡ None
no_digits = refl
