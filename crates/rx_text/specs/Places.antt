-- Bytes that are placed behind a front of others.
use Rattle.std.specs.Prelude.{ℕ, ◌≡◌, ◌+◌, ◌/◌, ◌%◌, List, [], ◌∷◌, ◌++◌, length, take}

-- The new bytes have the text behind the first `at` of the old ones, and it ends at this place. There are as many bytes as before.
pub record IsPlaced (old new : List ℕ) (at : ℕ) (text : List ℕ) (end : ℕ) : Type 0 where
  pub front : take end new ≡ take at old ++ text
  pub moved : end ≡ at + length text
  pub long : length new ≡ length old

-- the two digits of a number below 100
abbrev pub two_digits : ℕ → List ℕ
two_digits n = (48 + n / 10) ∷ (48 + n % 10) ∷ []

-- the four digits of a number below 10,000
abbrev pub four_digits : ℕ → List ℕ
four_digits n = two_digits (n / 100) ++ two_digits (n % 100)

-- the eight digits of a number below 100,000,000
abbrev pub eight_digits : ℕ → List ℕ
eight_digits n = four_digits (n / 10000) ++ four_digits (n % 10000)
