-- The states of a part, and the entries whose calls fit.
use Rattle.std.specs.Prelude.{ℕ, ◌≡◌, ◌<◌, ◌≤◌, true, List, length, slice_index}
use Rattle.std.specs.List.{All, AllPairs}
use Rattle.rx_seq.specs.declared.kinds.Kind.{Kind}
use Rattle.rx_seq.specs.declared.kinds.Kind.TheVariants.{Cell, Queue, Registers, List as Ordered}
use Rattle.rx_seq.specs.declared.kinds.Part.{Part}
use Rattle.rx_seq.specs.declared.entries.Entry.{Entry}
use Rattle.rx_seq.specs.Table.{most_cell, most_value, fits_part}
use Rattle.rx_seq.specs.History.{part_at}

-- a number that a queue, a list or a register can have
abbrev pub IsValue : ℕ → Type 0
IsValue n = n ≤ most_value

-- a cell has one number, of at most 24 bits
pub record IsCell (state : List ℕ) : Type 0 where
  pub one : length state ≡ 1
  pub value : slice_index state 0 ≤ most_cell

-- a queue has at most as many numbers as its capacity
pub record IsQueue (cap : ℕ) (state : List ℕ) : Type 0 where
  pub room : length state ≤ cap
  pub values : All IsValue state

-- a list has at most as many numbers as its capacity, and they rise
pub record IsOrdered (cap : ℕ) (state : List ℕ) : Type 0 where
  pub room : length state ≤ cap
  pub values : All IsValue state
  pub rising : AllPairs (λ earlier later. earlier < later) state

-- there are as many registers as the capacity says
pub record IsRegisters (cap : ℕ) (state : List ℕ) : Type 0 where
  pub count : length state ≡ cap
  pub values : All IsValue state

-- the numbers are a state of a kind of object, with this capacity
abbrev pub IsStateBy : Kind → ℕ → List ℕ → Type 0
IsStateBy Cell cap state = IsCell state
IsStateBy Queue cap state = IsQueue cap state
IsStateBy Ordered cap state = IsOrdered cap state
IsStateBy Registers cap state = IsRegisters cap state

-- a state of a part: one number of 24 bits for a cell, at most as many numbers as the capacity for a queue, the same in
-- rising order for a list, exactly as many for registers; each number has at most 32 bits
abbrev pub IsState : Part → List ℕ → Type 0
IsState part state = IsStateBy part.kind part.cap state

-- an entry names an object that is there, and its call fits it
pub record IsFitting (parts : List Part) (entry : Entry) : Type 0 where
  pub exists : entry.object < length parts
  pub fits : fits_part (part_at parts entry.object) entry.call ≡ true
