-- The entries of callers.
use Rattle.std.specs.Prelude.{ℕ, ◌≡◌, ◌+◌, List, map, slice_get, Some}
use Rattle.rx_seq.specs.declared.entries.Entry.{Entry}
use Rattle.rx_lanes.specs.declared.answers.Answer.{Answer}
use Rattle.rx_set.specs.Operations.{Asked, asked_of}

-- what an entry answered: its reply and its tag
abbrev pub answer_of : Entry → Answer
answer_of entry = record { reply = entry.reply; tag = entry.tag }

-- an entry without who made it, and as which of its calls
abbrev pub plain : Entry → Entry
plain entry = record entry { caller = 0; index = 0 }

-- the entries of a caller, numbered from 1: they have the operations of this script
pub record IsListOf (caller : ℕ) (script : List Asked) (list : List Entry) : Type 0 where
  pub calls : map asked_of list ≡ script
  pub own : (place : ℕ) (entry : Entry) → slice_get list place ≡ Some entry → (entry.caller ≡ caller) × (entry.index ≡ place + 1)

-- the entries of a caller that have the operations of this script, with these answers
pub record IsTold (caller : ℕ) (script : List Asked) (answers : List Answer) (list : List Entry) : Type 0 where
  pub is : IsListOf caller script list
  pub told : map answer_of list ≡ answers
