-- The numbering of words: word 0 belongs to no object, then comes a root word for each object, and then the places
-- of each: those of the start, and a stock for each seat.
use Rattle.std.specs.Prelude.{ℕ, ◌≡◌, ◌+◌, ◌*◌, ◌<◌, ◌≤◌, ◌^◌, List, [], ◌∷◌, length, take, get_or, slice_index}
use Rattle.std.specs.List.{All}
use Rattle.rx_seq.specs.declared.kinds.Part.{Part}
use Rattle.rx_seq.specs.Table.{IsPart}
use Rattle.rx_seq.specs.History.{part_at}
use Rattle.rx_shape.specs.declared.homes.Home.{Home}
use Rattle.rx_shape.specs.Forms.{Form, inline, block, node, form_of, stock_size}

-- the parts of the objects, the number of seats, and the tag at the start
pub record Layout : Type 0 where
  pub parts : List Part
  pub seats : ℕ
  pub first : ℕ

-- at most 16 parts in their limits, 1 to 64 seats, and a tag of at most 40 bits at the start
pub record IsLayout (layout : Layout) : Type 0 where
  pub few : length layout.parts ≤ 16
  pub parts : All IsPart layout.parts
  pub one : 1 ≤ layout.seats
  pub seats : layout.seats ≤ 64
  pub tag : layout.first < 2 ^ 40

-- how many places an object has, a stock of its own and one for each seat; how many all objects have together
abbrev pub places_of : ℕ → Part → ℕ
places_of seats part = stock_size part * (seats + 1)

abbrev pub all_places : ℕ → List Part → ℕ
all_places seats [] = 0
all_places seats (part ∷ parts) = places_of seats part + all_places seats parts

-- the number of words
abbrev pub words_of : Layout → ℕ
words_of layout = length layout.parts + 1 + all_places layout.seats layout.parts

-- where the places of the first so many objects end, and those of the next one begin
abbrev pub end_after : ℕ → List Part → ℕ → ℕ
end_after seats parts objects = length parts + 1 + all_places seats (take objects parts)

abbrev pub place_after : Layout → ℕ → ℕ
place_after layout object = end_after layout.seats layout.parts object

-- a list tells all these ends, from no object on
pub record AreEnds (seats : ℕ) (parts : List Part) (ends : List ℕ) : Type 0 where
  pub all : length ends ≡ length parts + 1
  pub each : (objects : ℕ) → objects ≤ length parts → get_or ends objects 0 ≡ end_after seats parts objects

-- a place, and 0 for an object that has none
abbrev pub first_as : Form → ℕ → ℕ
first_as inline place = 0
first_as block place = place
first_as node place = place

-- the first place of an object, and 0 for a cell
abbrev pub first_place : Layout → ℕ → ℕ
first_place layout object = first_as (form_of (part_at layout.parts object).kind) (place_after layout object)

-- the part of an object and its places, which follow each other
abbrev pub home : Layout → ℕ → Home
home layout object =
    record { part = part_at layout.parts object; first = first_place layout object; count = places_of layout.seats (part_at layout.parts object) }

-- the root word of an object
abbrev pub root_of : List ℕ → ℕ → ℕ
root_of words object = slice_index words (object + 1)
