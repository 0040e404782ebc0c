-- Worked rows of the words for keys and trees.
use Rattle.std.specs.Prelude.{◌≡◌, refl, [], ◌∷◌, ◌++◌, replicate}
use Rattle.rx_tree.specs.Trees.{key_at, keys_of, IsLesser}

pub second_key : key_at (7 ∷ 3 ∷ 5 ∷ []) 1 ≡ 3
second_key = refl

-- the leaves of a tree with 9 at each place above them
pub second_half : keys_of (replicate 64 9 ++ 7 ∷ 3 ∷ []) ≡ 7 ∷ 3 ∷ []
second_half = refl

-- a root with 3, and below it 5 and 3
pub lesser_of_two : IsLesser (0 ∷ 3 ∷ 5 ∷ 3 ∷ []) 1
lesser_of_two = refl
