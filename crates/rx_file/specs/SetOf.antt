-- The set of a task file: the order of checks, of which the first that fails gives the fault.
use Rattle.std.specs.Prelude.{ℕ, ◌+◌, ◌==◌, ◌&&◌, nat_le, if◌then◌else◌, List, [], ◌∷◌, length, map, codes, Option, Some, None, Result, Ok, Err, ok_or}
use Rattle.std.specs.Str.{is_utf8, bytes_eq}
use Rattle.toml.specs.Data.{Data, Items, Members, get_member, as_str, as_table}
use Rattle.toml.specs.Parse.{parse_document}
use Rattle.rx_set.specs.declared.policies.Policy.{Policy}
use Rattle.rx_set.specs.declared.policies.Policy.TheVariants.{Rm, Dm, Edf}
use Rattle.rx_set.specs.System.{ObjectRow, TaskRow, System}
use Rattle.rx_set.specs.Valid.{task_name}
use Rattle.rx_file.specs.declared.faults.Section.TheVariants as section
use Rattle.rx_file.specs.declared.faults.Label.{Label}
use Rattle.rx_file.specs.declared.faults.Label.TheVariants as label
use Rattle.rx_file.specs.declared.faults.FileFault.{FileFault}
use Rattle.rx_file.specs.declared.faults.FileFault.TheVariants as fault
use Rattle.rx_file.specs.declared.places.Place.{Place}
use Rattle.rx_file.specs.Steps.{◌>>=◌, ◌>>◌}
use Rattle.rx_file.specs.Fields.{field, range, key_of, name_at, is_new, number_at, number_or, only_keys}
use Rattle.rx_file.specs.Arrays.{items_len, array_at, array_or_empty, up_to, all_of}
use Rattle.rx_file.specs.Objects.{objects_of}
use Rattle.rx_file.specs.Items.{items_of}
use Rattle.rx_file.specs.Demands.{demands_of}

-- the array at `body`, of 1 to 64 items
unfoldable pub body_at : Place → Members → Result Items FileFault
body_at place row = do
  items ← array_at place label.Body row
  if nat_le 1 (items_len items) && nat_le (items_len items) 64 then Ok items else Err (range place label.Body)

-- the keys of a task
abbrev pub task_labels : List Label
task_labels = label.Name ∷ label.Period ∷ label.Deadline ∷ label.Offset ∷ label.Body ∷ []

-- the task of a table, key by key, among some objects, which comes after these tasks
unfoldable pub task_of_table : List ObjectRow → Place → List TaskRow → Members → Result TaskRow FileFault
task_of_table objects place before row = do
  name ← name_at place row
  is_new place (map task_name before) name
  period ← number_at place label.Period 1 1000000 row
  deadline ← number_or place label.Deadline period 1 period row
  offset ← number_or place label.Offset 0 0 1000000 row
  body ← body_at place row
  only_keys place task_labels row
  items ← items_of objects place.row body
  Ok (record { name = name; period = period; deadline = deadline; offset = offset; items = items })

-- the place of the row after these; rows are numbered from 1
abbrev pub task_place : List TaskRow → Place
task_place before = record { section = section.Task; row = length before + 1 }

-- the task of a row, which must be a table
unfoldable pub task_of_value : List ObjectRow → List TaskRow → Data → Result TaskRow FileFault
task_of_value objects before value = do
  row ← ok_or (as_table value) (field (task_place before) label.Whole)
  task_of_table objects (task_place before) before row

-- the tasks of some rows
abbrev pub tasks_of : List ObjectRow → Items → Result (List TaskRow) FileFault
tasks_of objects rows = all_of (task_of_value objects) rows

-- the place of the keys at the top
abbrev pub top : Place
top = record { section = section.Top; row = 0 }

-- the policy that a word names
abbrev pub policy_of : List ℕ → Option Policy
policy_of word =
    if bytes_eq word (codes "rm") then Some Rm
    else (if bytes_eq word (codes "dm") then Some Dm
    else (if bytes_eq word (codes "edf") then Some Edf else None))

unfoldable pub policy_in : Data → Result Policy FileFault
policy_in value = do
  word ← ok_or (as_str value) (field top label.Policy)
  ok_or (policy_of word) (range top label.Policy)

-- the policy, which is rate monotonic where it is left out
abbrev pub policy_or_default : Option Data → Result Policy FileFault
policy_or_default None = Ok Rm
policy_or_default (Some value) = policy_in value

unfoldable pub policy_at : Members → Result Policy FileFault
policy_at file = policy_or_default (get_member (key_of label.Policy) file)

-- the array at `object`, which may be left out, of at most 16 rows
unfoldable pub object_rows : Members → Result Items FileFault
object_rows file = do
  rows ← array_or_empty top label.Object file
  up_to 16 section.Object rows

-- at least one row
unfoldable pub some_rows : Items → Result Items FileFault
some_rows rows = if items_len rows == 0 then Err (range top label.Task) else Ok rows

-- the array at `task`, of 1 to 64 rows
unfoldable pub task_rows : Members → Result Items FileFault
task_rows file = do
  all ← array_at top label.Task file
  rows ← some_rows all
  up_to 64 section.Task rows

-- the array at `demand`, which may be left out, of at most 1,000 rows
unfoldable pub demand_rows : Members → Result Items FileFault
demand_rows file = do
  rows ← array_or_empty top label.Demand file
  up_to 1000 section.Demand rows

-- the keys at the top
abbrev pub top_labels : List Label
top_labels = label.Policy ∷ label.Object ∷ label.Task ∷ label.Demand ∷ []

-- the set of a document, or the first fault in the order of checks: the policy, the arrays of objects, of tasks and of
-- demand rows, other keys, and then each row of objects, each row of tasks with its keys and items, and each demand row
-- in turn
unfoldable pub set_of_file : Members → Result System FileFault
set_of_file file = do
  policy ← policy_at file
  of_objects ← object_rows file
  of_tasks ← task_rows file
  of_demands ← demand_rows file
  only_keys top top_labels file
  objects ← objects_of of_objects
  tasks ← tasks_of objects of_tasks
  demands ← demands_of tasks of_demands
  Ok (record { policy = policy; objects = objects; tasks = tasks; demands = demands })

-- the document that bytes write
unfoldable pub file_of : List ℕ → Result Members FileFault
file_of bytes = ok_or (if is_utf8 bytes then parse_document bytes else None) fault.NotToml

-- the set of some bytes, or the first fault: that they are no document, or that of the document
unfoldable pub set_of : List ℕ → Result System FileFault
set_of bytes = do
  file ← file_of bytes
  set_of_file file
