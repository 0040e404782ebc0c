-- A tournament tree of keys.
use Rattle.std.specs.Prelude.{ℕ, ◌+◌, ◌*◌, ◌≡◌, ◌≤◌, ◌<◌, List, length, get_or, drop, min}
use Rattle.rx_tree.specs.declared.trees.TheConstants.{LEAVES}

-- the key at a leaf, or at a place
abbrev pub key_at : List ℕ → ℕ → ℕ
key_at keys leaf = get_or keys leaf 0

-- a key is the least of all: a leaf has it, and none has a lesser one
pub record IsLeast (keys : List ℕ) (key : ℕ) : Type 0 where
  pub found : (leaf : ℕ) × (leaf < LEAVES) × (key_at keys leaf ≡ key)
  pub least : (leaf : ℕ) → leaf < LEAVES → key ≤ key_at keys leaf

-- the keys at the leaves, which are the second half of the places
abbrev pub keys_of : List ℕ → List ℕ
keys_of places = drop LEAVES places

-- the key at a place is the lesser of the two below it
abbrev pub IsLesser : List ℕ → ℕ → Type 0
IsLesser places place = key_at places place ≡ min (key_at places (2 * place)) (key_at places (2 * place + 1))

-- a tree: each place above the leaves, from 1 on, has the lesser of the two keys below it
pub record IsTree (places : List ℕ) : Type 0 where
  pub whole : length places ≡ 2 * LEAVES
  pub lesser : (place : ℕ) → 1 ≤ place → place < LEAVES → IsLesser places place
