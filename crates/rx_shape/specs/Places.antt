-- Lists of places. A place is named by the number of its word.
use Rattle.std.specs.Prelude.{ℕ, zero, suc, ◌+◌, ◌==◌, if◌then◌else◌, List, [], ◌∷◌, slice_index}

-- how often a place stands in a list
abbrev pub times : ℕ → List ℕ → ℕ
times place [] = 0
times place (other ∷ others) = (if other == place then 1 else 0) + times place others

-- the sum of a number over a list
abbrev pub total : {A : Type 0} → (A → ℕ) → List A → ℕ
total number [] = 0
total number (x ∷ xs) = number x + total number xs

-- so many places that follow each other, from the first on
abbrev pub run : ℕ → ℕ → List ℕ
run first zero = []
run first (suc count) = first ∷ run (first + 1) count

-- the words of these places
abbrev pub read_run : List ℕ → ℕ → ℕ → List ℕ
read_run words first zero = []
read_run words first (suc count) = slice_index words first ∷ read_run words (first + 1) count
