-- Places of numbers in an ordered list.
use Rattle.std.specs.Prelude.{ℕ, ◌≡◌, ◌<◌, ◌≤◌, true, false, if◌then◌else◌, List, length}
use Rattle.std.specs.List.{insert, remove}
use Rattle.rx_seq.specs.declared.replies.Reply.TheVariants.{Removed, Absent}
use Rattle.rx_seq.specs.Table.{Effect, answers, has_number, with_number, without_number}

-- the number stands at this place
pub record Stands (k : ℕ) (numbers : List ℕ) (place : ℕ) : Type 0 where
  pub within : place < length numbers
  pub has : has_number k numbers ≡ true
  pub others : without_number k numbers ≡ remove numbers place

-- the number is not there, and this place is its own
pub record Belongs (k : ℕ) (numbers : List ℕ) (place : ℕ) : Type 0 where
  pub within : place ≤ length numbers
  pub has_not : has_number k numbers ≡ false
  pub together : with_number k numbers ≡ insert numbers place k

-- what leaving a number out does to a list, whatever its capacity
abbrev pub left_out : ℕ → List ℕ → Effect
left_out k numbers = if has_number k numbers then answers (without_number k numbers) Removed else answers numbers Absent
