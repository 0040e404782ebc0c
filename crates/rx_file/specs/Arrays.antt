-- The arrays of a document: their length, and their rows in order.
use Rattle.std.specs.Prelude.{ℕ, ◌+◌, nat_le, if◌then◌else◌, List, [], ◌∷◌, ◌++◌, Option, Some, None, Result, Ok, Err, ok_or}
use Rattle.toml.specs.Data.{Data, Items, no_items, item, Members, get_member, as_array}
use Rattle.rx_file.specs.declared.faults.Section.{Section}
use Rattle.rx_file.specs.declared.faults.Label.{Label}
use Rattle.rx_file.specs.declared.faults.FileFault.{FileFault}
use Rattle.rx_file.specs.declared.faults.FileFault.TheVariants.{TooMany}
use Rattle.rx_file.specs.declared.places.Place.{Place}
use Rattle.rx_file.specs.Steps.{◌>>=◌}
use Rattle.rx_file.specs.Fields.{field, key_of, value_at}

-- how many items
abbrev pub items_len : Items → ℕ
items_len no_items = 0
items_len (item value rest) = items_len rest + 1

-- the array at a key that must stand
unfoldable pub array_at : Place → Label → Members → Result Items FileFault
array_at place what row = do
  value ← value_at place what row
  ok_or (as_array value) (field place what)

-- the array at a key that may be left out, which is then empty
abbrev pub array_if : Place → Label → Option Data → Result Items FileFault
array_if place what None = Ok no_items
array_if place what (Some value) = ok_or (as_array value) (field place what)

unfoldable pub array_or_empty : Place → Label → Members → Result Items FileFault
array_or_empty place what row = array_if place what (get_member (key_of what) row)

-- rows of a section, of which there are no more than these
unfoldable pub up_to : ℕ → Section → Items → Result Items FileFault
up_to most section rows = if nat_le (items_len rows) most then Ok rows else Err (TooMany section (items_len rows))

-- what is read from the rows of an array in order, where each is told what came before it
abbrev pub all_after : {X : Type 0} → (List X → Data → Result X FileFault) → List X → Items → Result (List X) FileFault
all_after read before no_items = Ok before
all_after read before (item value rest) = do
  next ← read before value
  all_after read (before ++ next ∷ []) rest

abbrev pub all_of : {X : Type 0} → (List X → Data → Result X FileFault) → Items → Result (List X) FileFault
all_of read items = all_after read [] items
