-- The keys of a table, and what stands there.
use Rattle.std.specs.Prelude.{ℕ, ℤ, pos, negsuc, ◌&&◌, nat_le, Bool, true, if◌then◌else◌, List, codes, Option, Some, None, is_none, Result, Ok, Err, ok_or, ⊤}
use Rattle.std.specs.List.{list_any, position}
use Rattle.std.specs.Str.{bytes_eq}
use Rattle.toml.specs.Data.{Data, Members, no_members, member, get_member, as_str, as_integer}
use Rattle.rx_set.specs.Names.{is_name}
use Rattle.rx_file.specs.declared.faults.Label.{Label}
use Rattle.rx_file.specs.declared.faults.Label.TheVariants as label
use Rattle.rx_file.specs.declared.faults.FileFault.{FileFault}
use Rattle.rx_file.specs.declared.faults.FileFault.TheVariants.{Field, Name, Repeat, Range}
use Rattle.rx_file.specs.declared.places.Place.{Place}
use Rattle.rx_file.specs.Steps.{◌>>=◌}

-- the faults of a row: a key that is missing, or holds another type or must not stand; a value out of range; a name,
-- or an item of a job, that stands twice
abbrev pub field : Place → Label → FileFault
field place what = Field place.section place.row what

abbrev pub range : Place → Label → FileFault
range place what = Range place.section place.row what

abbrev pub repeat : Place → FileFault
repeat place = Repeat place.section place.row

-- the key that a label stands for; two labels stand for none
abbrev pub key_of : Label → List ℕ
key_of label.Policy = codes "policy"
key_of label.Object = codes "object"
key_of label.Task = codes "task"
key_of label.Demand = codes "demand"
key_of label.Name = codes "name"
key_of label.Kind = codes "kind"
key_of label.Capacity = codes "capacity"
key_of label.Period = codes "period"
key_of label.Deadline = codes "deadline"
key_of label.Offset = codes "offset"
key_of label.Body = codes "body"
key_of label.Job = codes "job"
key_of label.Item = codes "item"
key_of label.Ticks = codes "ticks"
key_of label.Whole = codes ""
key_of label.Other = codes ""

-- what a key holds, which must stand
unfoldable pub value_at : Place → Label → Members → Result Data FileFault
value_at place what row = ok_or (get_member (key_of what) row) (field place what)

-- the string at a key
unfoldable pub text_at : Place → Label → Members → Result (List ℕ) FileFault
text_at place what row = do
  value ← value_at place what row
  ok_or (as_str value) (field place what)

-- the name at `name`
unfoldable pub name_at : Place → Members → Result (List ℕ) FileFault
name_at place row = do
  name ← text_at place label.Name row
  if is_name name then Ok name else Err (Name place.section place.row)

-- an earlier row has the name
abbrev pub is_taken : List (List ℕ) → List ℕ → Bool
is_taken earlier name = list_any (λ other. bytes_eq other name) earlier

-- the place of a name among these, from 0
abbrev pub place_of : List (List ℕ) → List ℕ → Option ℕ
place_of names name = position (λ other. bytes_eq other name) names

-- a name that no earlier row has
unfoldable pub is_new : Place → List (List ℕ) → List ℕ → Result ⊤ FileFault
is_new place earlier name = if is_taken earlier name then Err (repeat place) else Ok tt

-- an integer from least to most
abbrev pub in_range : Place → Label → ℕ → ℕ → ℤ → Result ℕ FileFault
in_range place what least most (pos n) = if nat_le least n && nat_le n most then Ok n else Err (range place what)
in_range place what least most (negsuc n) = Err (range place what)

unfoldable pub number_in : Place → Label → ℕ → ℕ → Data → Result ℕ FileFault
number_in place what least most value = do
  number ← ok_or (as_integer value) (field place what)
  in_range place what least most number

-- the number at a key that must stand
unfoldable pub number_at : Place → Label → ℕ → ℕ → Members → Result ℕ FileFault
number_at place what least most row = do
  value ← value_at place what row
  number_in place what least most value

-- the number at a key that may be left out
abbrev pub number_or_default : Place → Label → ℕ → ℕ → ℕ → Option Data → Result ℕ FileFault
number_or_default place what default least most None = Ok default
number_or_default place what default least most (Some value) = number_in place what least most value

unfoldable pub number_or : Place → Label → ℕ → ℕ → ℕ → Members → Result ℕ FileFault
number_or place what default least most row = number_or_default place what default least most (get_member (key_of what) row)

-- a key that must not stand
unfoldable pub no_key : Place → Label → Members → Result ⊤ FileFault
no_key place what row = if is_none (get_member (key_of what) row) then Ok tt else Err (field place what)

-- a key is that of one of the labels
abbrev pub is_key : List Label → List ℕ → Bool
is_key labels key = list_any (λ what. bytes_eq (key_of what) key) labels

-- each key of a table is that of one of the labels
abbrev pub has_only : List Label → Members → Bool
has_only labels no_members = true
has_only labels (member key value rest) = is_key labels key && has_only labels rest

unfoldable pub only_keys : Place → List Label → Members → Result ⊤ FileFault
only_keys place labels row = if has_only labels row then Ok tt else Err (field place label.Other)
