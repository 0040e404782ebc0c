-- The buffer in which a line is made.
use Rattle.std.specs.Prelude.{ℕ, ◌≡◌, ◌≤◌, ◌<◌, ◌*◌, ◌/◌, List, take, decimal}

-- the bytes of a line
pub record LineText : Type 0 where
  pub items : List ℕ

-- Digits that are kept in front of a line are the text of the time that was told last, and no longer than the line. The base is the time with zeros in the place of its last four digits.
pub record KeepsTime (bytes : List ℕ) (len digits time base : ℕ) : Type 0 where
  pub within : digits ≤ len
  pub text : 0 < digits → take digits bytes ≡ decimal time
  pub base_is : base ≡ time / 10000 * 10000
