-- Root words: the upper 40 bits are the version tag, and the lower 24 bits a cell's value or a place.
use Rattle.std.specs.Prelude.{ℕ, ◌+◌, ◌*◌, ◌/◌, ◌%◌}

-- the root word of a version tag and a low part; the tag of a root word; its low part
abbrev pub pack : ℕ → ℕ → ℕ
pack tag low = tag * 16777216 + low

abbrev pub tag_of : ℕ → ℕ
tag_of word = word / 16777216

abbrev pub low_of : ℕ → ℕ
low_of word = word % 16777216
