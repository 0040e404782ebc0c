-- The rows of `object`.
use Rattle.std.specs.Prelude.{◌+◌, if◌then◌else◌, List, [], ◌∷◌, length, map, codes, ℕ, Option, Some, None, Result, Ok, ok_or}
use Rattle.std.specs.Str.{bytes_eq}
use Rattle.toml.specs.Data.{Data, Items, Members, as_table}
use Rattle.rx_seq.specs.declared.kinds.Kind.{Kind}
use Rattle.rx_seq.specs.declared.kinds.Kind.TheVariants.{Cell, Queue, Registers, List as Ordered}
use Rattle.rx_seq.specs.declared.kinds.Part.{Part}
use Rattle.rx_set.specs.System.{ObjectRow}
use Rattle.rx_set.specs.Valid.{object_name}
use Rattle.rx_file.specs.declared.faults.Section.TheVariants as section
use Rattle.rx_file.specs.declared.faults.Label.{Label}
use Rattle.rx_file.specs.declared.faults.Label.TheVariants as label
use Rattle.rx_file.specs.declared.faults.FileFault.{FileFault}
use Rattle.rx_file.specs.declared.places.Place.{Place}
use Rattle.rx_file.specs.Steps.{◌>>=◌, ◌>>◌}
use Rattle.rx_file.specs.Fields.{field, range, text_at, name_at, is_new, no_key, number_at, only_keys}
use Rattle.rx_file.specs.Arrays.{all_of}

-- the kind that a word names
abbrev pub kind_of : List ℕ → Option Kind
kind_of word =
    if bytes_eq word (codes "cell") then Some Cell
    else (if bytes_eq word (codes "queue") then Some Queue
    else (if bytes_eq word (codes "list") then Some Ordered
    else (if bytes_eq word (codes "registers") then Some Registers else None)))

unfoldable pub kind_at : Place → Members → Result Kind FileFault
kind_at place row = do
  word ← text_at place label.Kind row
  ok_or (kind_of word) (range place label.Kind)

-- the capacity of an object of a kind, which must stand and be in its range. A cell has room for one number, and no
-- `capacity`
unfoldable pub cap_at : Place → Kind → Members → Result ℕ FileFault
cap_at place Cell row = do
  no_key place label.Capacity row
  Ok 1
cap_at place Queue row = number_at place label.Capacity 1 64 row
cap_at place Ordered row = number_at place label.Capacity 1 64 row
cap_at place Registers row = number_at place label.Capacity 1 16 row

-- the part of a table, which is its kind and its capacity
unfoldable pub part_of_table : Place → Members → Result Part FileFault
part_of_table place row = do
  kind ← kind_at place row
  cap ← cap_at place kind row
  Ok (record { kind = kind; cap = cap })

-- the keys of an object
abbrev pub object_labels : List Label
object_labels = label.Name ∷ label.Kind ∷ label.Capacity ∷ []

-- the object of a table, key by key, which comes after these objects
unfoldable pub object_of_table : Place → List ObjectRow → Members → Result ObjectRow FileFault
object_of_table place before row = do
  name ← name_at place row
  is_new place (map object_name before) name
  part ← part_of_table place row
  only_keys place object_labels row
  Ok (record { name = name; part = part })

-- the place of the row after these; rows are numbered from 1
abbrev pub object_place : List ObjectRow → Place
object_place before = record { section = section.Object; row = length before + 1 }

-- the object of a row, which must be a table
unfoldable pub object_of_value : List ObjectRow → Data → Result ObjectRow FileFault
object_of_value before value = do
  row ← ok_or (as_table value) (field (object_place before) label.Whole)
  object_of_table (object_place before) before row

-- the objects of some rows
abbrev pub objects_of : Items → Result (List ObjectRow) FileFault
objects_of rows = all_of object_of_value rows
