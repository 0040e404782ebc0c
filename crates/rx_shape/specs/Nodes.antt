-- Words of linked nodes, and the places along which they lead.
use Rattle.std.specs.Prelude.{ℕ, zero, suc, ◌+◌, ◌*◌, ◌/◌, ◌%◌, ◌==◌, Bool, true, if◌then◌else◌, List, [], ◌∷◌, slice_index}

-- the place that means none
abbrev pub no_place : ℕ
no_place = 16777215

-- a node has a value in the upper 40 bits and the place of the next node in the lower 24
abbrev pub node_word : ℕ → ℕ → ℕ
node_word value next = value * 16777216 + next

abbrev pub value_of : ℕ → ℕ
value_of word = word / 16777216

abbrev pub next_of : ℕ → ℕ
next_of word = word % 16777216

-- a header has the place of the first node in the upper bits, and that of the first spare node in the lower 24
abbrev pub header_word : ℕ → ℕ → ℕ
header_word first spare = first * 16777216 + spare

abbrev pub first_of : ℕ → ℕ
first_of word = word / 16777216

abbrev pub spare_of : ℕ → ℕ
spare_of word = word % 16777216

-- the places from this one on along the next ones, up to none, and so many at most
abbrev pub walk : ℕ → List ℕ → ℕ → List ℕ
walk zero words place = []
walk (suc count) words place = if place == no_place then [] else place ∷ walk count words (next_of (slice_index words place))

-- whether that comes to none
abbrev pub ends : ℕ → List ℕ → ℕ → Bool
ends zero words place = place == no_place
ends (suc count) words place = if place == no_place then true else ends count words (next_of (slice_index words place))

-- the values of the nodes at these places
abbrev pub values : List ℕ → List ℕ → List ℕ
values words [] = []
values words (place ∷ places) = value_of (slice_index words place) ∷ values words places
