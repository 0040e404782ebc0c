-- The items of a task, among some objects.
use Rattle.std.specs.Prelude.{ℕ, ◌+◌, if◌then◌else◌, List, length, map, Option, Result, Ok, Err, ok_or}
use Rattle.toml.specs.Data.{Data, Items, as_str}
use Rattle.rx_seq.specs.declared.calls.Call.{Call}
use Rattle.rx_seq.specs.Table.{fits_part}
use Rattle.rx_seq.specs.History.{part_at}
use Rattle.rx_set.specs.declared.items.Item.{Item}
use Rattle.rx_set.specs.declared.items.Item.TheVariants as item
use Rattle.rx_set.specs.System.{ObjectRow, part_of_row}
use Rattle.rx_set.specs.Valid.{object_name}
use Rattle.rx_file.specs.declared.faults.FileFault.{FileFault}
use Rattle.rx_file.specs.declared.faults.FileFault.TheVariants as fault
use Rattle.rx_file.specs.Steps.{◌>>=◌}
use Rattle.rx_file.specs.Fields.{place_of}
use Rattle.rx_file.specs.Texts.{words_of}
use Rattle.rx_file.specs.Shapes.{Shape, Work, On, shape_of}
use Rattle.rx_file.specs.Arrays.{all_of}

-- the number of the object of a name, from 0
abbrev pub object_of : List ObjectRow → List ℕ → Option ℕ
object_of objects name = place_of (map object_name objects) name

-- a call on an object of this number, which it must fit
abbrev pub fitting : List ObjectRow → ℕ → ℕ → ℕ → Call → Result Item FileFault
fitting objects task number object call =
    if fits_part (part_at (map part_of_row objects) object) call then Ok (item.Op object call) else Err (fault.Misfit task number)

-- a call on the object of a name, which must be there
abbrev pub operation : List ObjectRow → ℕ → ℕ → List ℕ → Call → Result Item FileFault
operation objects task number name call = do
  object ← ok_or (object_of objects name) (fault.Unknown task number)
  fitting objects task number object call

-- the item of a shape
abbrev pub item_of_shape : List ObjectRow → ℕ → ℕ → Shape → Result Item FileFault
item_of_shape objects task number (Work ticks) = Ok (item.Work ticks)
item_of_shape objects task number (On name call) = operation objects task number name call

-- the item of a string among some objects: its shape, then the object of that name, then whether the call fits
unfoldable pub item_of : List ObjectRow → ℕ → ℕ → Data → Result Item FileFault
item_of objects task number value = do
  text ← ok_or (as_str value) (fault.Item task number)
  shape ← ok_or (shape_of (words_of text)) (fault.Item task number)
  item_of_shape objects task number shape

-- the item after these; items are numbered from 1
abbrev pub next_item : List ObjectRow → ℕ → List Item → Data → Result Item FileFault
next_item objects task before value = item_of objects task (length before + 1) value

-- the items of a task
abbrev pub items_of : List ObjectRow → ℕ → Items → Result (List Item) FileFault
items_of objects task values = all_of (next_item objects task) values
