-- The rows of `demand`.
use Rattle.std.specs.Prelude.{ℕ, ◌+◌, ◌-◌, ◌==◌, ◌&&◌, Bool, true, false, if◌then◌else◌, List, [], ◌∷◌, length, map, get_or, slice_get, Option, Some, None, Result, Ok, Err, ok_or}
use Rattle.std.specs.List.{list_any}
use Rattle.toml.specs.Data.{Data, Items, Members, as_table}
use Rattle.rx_set.specs.declared.demands.Demand.{Demand}
use Rattle.rx_set.specs.declared.items.Item.{Item}
use Rattle.rx_set.specs.declared.items.Item.TheVariants.{Work, Op}
use Rattle.rx_set.specs.System.{TaskRow, no_task}
use Rattle.rx_set.specs.Valid.{task_name}
use Rattle.rx_file.specs.declared.faults.Section.TheVariants as section
use Rattle.rx_file.specs.declared.faults.Label.{Label}
use Rattle.rx_file.specs.declared.faults.Label.TheVariants as label
use Rattle.rx_file.specs.declared.faults.FileFault.{FileFault}
use Rattle.rx_file.specs.declared.places.Place.{Place}
use Rattle.rx_file.specs.Steps.{◌>>=◌, ◌>>◌}
use Rattle.rx_file.specs.Fields.{field, range, repeat, place_of, text_at, number_at, only_keys}
use Rattle.rx_file.specs.Arrays.{all_of}

-- the number of the task of a name, from 0
abbrev pub task_of : List TaskRow → List ℕ → Option ℕ
task_of tasks name = place_of (map task_name tasks) name

-- the task whose name is at `task`, which must be there
unfoldable pub task_at : List TaskRow → Place → Members → Result ℕ FileFault
task_at tasks place row = do
  name ← text_at place label.Task row
  ok_or (task_of tasks name) (range place label.Task)

-- an item is there, and is one of work
abbrev pub is_work : Option Item → Bool
is_work (Some (Work ticks)) = true
is_work (Some (Op object call)) = false
is_work None = false

-- the number of a work item of a body, from 1
unfoldable pub work_at : List Item → Place → Members → Result ℕ FileFault
work_at items place row = do
  number ← number_at place label.Item 1 (length items) row
  if is_work (slice_get items (number - 1)) then Ok number else Err (range place label.Item)

-- two rows name one item of one job
abbrev pub name_one_item : Demand → Demand → Bool
name_one_item a b = (a.task == b.task) && (a.job == b.job) && (a.item == b.item)

-- an earlier row names the item of the job that this one names
abbrev pub is_named : List Demand → Demand → Bool
is_named earlier demand = list_any (name_one_item demand) earlier

-- a row that names what no earlier row names
unfoldable pub unnamed : Place → List Demand → Demand → Result Demand FileFault
unnamed place earlier demand = if is_named earlier demand then Err (repeat place) else Ok demand

-- the keys of a demand row
abbrev pub demand_labels : List Label
demand_labels = label.Task ∷ label.Job ∷ label.Item ∷ label.Ticks ∷ []

-- the demand row of a table, key by key, among some tasks, which comes after these demand rows: the task of that name,
-- the job, an item of its body that is work, the ticks
unfoldable pub demand_of_table : List TaskRow → Place → List Demand → Members → Result Demand FileFault
demand_of_table tasks place before row = do
  task ← task_at tasks place row
  job ← number_at place label.Job 1 1000000 row
  item ← work_at (get_or tasks task no_task).items place row
  ticks ← number_at place label.Ticks 1 1000000 row
  only_keys place demand_labels row
  unnamed place before (record { task = task; job = job; item = item; ticks = ticks })

-- the place of the row after these; rows are numbered from 1
abbrev pub demand_place : List Demand → Place
demand_place before = record { section = section.Demand; row = length before + 1 }

-- the demand row of a row, which must be a table
unfoldable pub demand_of_value : List TaskRow → List Demand → Data → Result Demand FileFault
demand_of_value tasks before value = do
  row ← ok_or (as_table value) (field (demand_place before) label.Whole)
  demand_of_table tasks (demand_place before) before row

-- the demand rows of some tasks
abbrev pub demands_of : List TaskRow → Items → Result (List Demand) FileFault
demands_of tasks rows = all_of (demand_of_value tasks) rows
