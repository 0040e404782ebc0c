-- What is counted of the entries taken, and of those that are left.
use Rattle.std.specs.Prelude.{ℕ, zero, suc, ◌≡◌, ◌+◌, ◌<◌, ◌≤◌, ◌&&◌, Bool, List, [], length, count_by, slice_index}
use Rattle.std.specs.List.{AllByRecursion}
use Rattle.rx_seq.specs.declared.entries.Entry.{Entry}
use Rattle.rx_seq.specs.History.{is_loud, tag_of, calls_of}
use Rattle.rx_merge.specs.Merged.{is_on, is_quiet_at, left_of, list_at}

-- the entry is on one of so many objects
abbrev pub IsKnown : ℕ → Entry → Type 0
IsKnown objects entry = entry.object < objects

-- so is each entry of each caller
abbrev pub AreKnown : ℕ → List (List Entry) → Type 0
AreKnown objects lists = (caller : ℕ) → caller < length lists → AllByRecursion (IsKnown objects) (list_at lists caller)

-- the sum of a function at the numbers below another
abbrev pub sum_below : (ℕ → ℕ) → ℕ → ℕ
sum_below f zero = 0
sum_below f (suc n) = sum_below f n + f n

-- how many entries that pass a test the callers have left
abbrev pub count_left : (Entry → Bool) → List (List Entry) → List Entry → ℕ
count_left passes lists taken = sum_below (λ caller. count_by passes (left_of lists taken caller)) (length lists)

-- a loud entry on an object
abbrev pub is_loud_on : ℕ → Entry → Bool
is_loud_on object entry = is_on object entry && is_loud entry

-- how many loud entries on an object there are in all
abbrev pub louds_in : List (List Entry) → ℕ → ℕ
louds_in lists object = count_left (is_loud_on object) lists []

-- no tag is above the number of loud entries on its object
abbrev pub AreLow : List (List Entry) → Type 0
AreLow lists = (caller : ℕ) → caller < length lists → AllByRecursion (λ entry. entry.tag ≤ louds_in lists entry.object) (list_at lists caller)

-- an object has a count for each tag, from 0 to the number of its loud entries: how many counts the objects before it have
abbrev pub start_at : List (List Entry) → ℕ → ℕ
start_at lists object = sum_below (λ before. louds_in lists before + 1) object

-- the places where the counts of so many objects start
pub record AreStarts (lists : List (List Entry)) (objects : ℕ) (starts : List ℕ) : Type 0 where
  pub many : length starts ≡ objects
  pub at : (object : ℕ) → object < objects → slice_index starts object ≡ start_at lists object

-- these are the counts of so many objects, which a function gives by object and tag
pub record AreCounts (lists : List (List Entry)) (objects : ℕ) (count : ℕ → ℕ → ℕ) (counts : List ℕ) : Type 0 where
  pub many : length counts ≡ start_at lists objects
  pub at : (object tag : ℕ) → object < objects → tag ≤ louds_in lists object → slice_index counts (start_at lists object + tag) ≡ count object tag

-- how many quiet entries on an object and of a tag are left
abbrev pub count_waiting : List (List Entry) → List Entry → ℕ → ℕ → ℕ
count_waiting lists taken object tag = count_left (is_quiet_at object tag) lists taken

-- the places and tags are those that the entries taken leave, the counts those of the quiet entries that are left, and of
-- so many first callers all entries are taken
pub record IsMergeState (lists : List (List Entry)) (taken : List Entry) (places tags starts waiting : List ℕ) (ended : ℕ) : Type 0 where
  pub callers : length places ≡ length lists
  pub place : (caller : ℕ) → caller < length lists → slice_index places caller ≡ calls_of caller taken
  pub tag : (object : ℕ) → object < length tags → slice_index tags object ≡ tag_of object taken
  pub loud : (object : ℕ) → object < length tags → count_left (is_loud_on object) lists taken + tag_of object taken ≡ louds_in lists object
  pub start : AreStarts lists (length tags) starts
  pub wait : AreCounts lists (length tags) (count_waiting lists taken) waiting
  pub within : ended ≤ length lists
  pub whole : (caller : ℕ) → caller < ended → length (list_at lists caller) ≤ calls_of caller taken
