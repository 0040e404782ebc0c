-- The words of a block that are read in order, and what they say of a call.
use Rattle.std.specs.Prelude.{ℕ, suc, ◌≡◌, ◌+◌, ◌<◌, ◌≤◌, nat_lt, true, if◌then◌else◌, List, [], ◌∷◌, length, slice_index}
use Rattle.rx_seq.specs.declared.kinds.Part.{Part}
use Rattle.rx_seq.specs.declared.calls.Call.{Call}
use Rattle.rx_seq.specs.declared.replies.Reply.{Reply}
use Rattle.rx_seq.specs.Table.{IsPart, answers, effect, fits_part, most_value}
use Rattle.rx_seq.specs.States.{IsState}
use Rattle.rx_shape.specs.declared.homes.Home.{Home}
use Rattle.rx_shape.specs.declared.plans.Taken.{Taken}
use Rattle.rx_shape.specs.declared.plans.Want.{Want}
use Rattle.rx_shape.specs.declared.plans.Want.TheVariants.{Read, Ready, Stale}
use Rattle.rx_shape.specs.declared.steps.Step.{Step}
use Rattle.rx_shape.specs.declared.steps.Step.TheVariants.{Open, Broken, Kept, Whole}
use Rattle.rx_shape.specs.Places.{read_run}
use Rattle.rx_shape.specs.Forms.{block, form_of}

-- the objects and calls that a walk over a block serves. Each of the object's places is a low part
pub record ServesBlocks (home : Home) (call : Call) : Type 0 where
  pub form : form_of home.part.kind ≡ block
  pub part : IsPart home.part
  pub places : home.first + home.count ≤ 16777216
  pub fits : fits_part home.part call ≡ true

-- the limits of the capacity of a part in block form
pub record IsBounded (part : Part) : Type 0 where
  pub least : 1 ≤ part.cap
  pub most : part.cap ≤ 16

-- the words begin the block of this state: its length, and then its numbers
pub record Begins (words state : List ℕ) : Type 0 where
  pub first : 0 < length words → slice_index words 0 ≡ length state
  pub numbers : (n : ℕ) → suc n < length words → n < length state → slice_index words (suc n) ≡ slice_index state n

-- no state of the part has these words
abbrev pub HaveNone : Part → List ℕ → Type 0
HaveNone part words = (state : List ℕ) → IsState part state → Begins words state → ⊥

-- each state of the part that has these words is left equal, and the call has this reply
abbrev pub IsKept : Part → Call → List ℕ → Reply → Type 0
IsKept part call words reply = (state : List ℕ) → IsState part state → Begins words state → effect part state call ≡ answers state reply

-- the first so many words are no more than the first of them allows
abbrev pub IsWithin : ℕ → List ℕ → Type 0
IsWithin count words = 0 < count → count ≤ suc (slice_index words 0)

-- the words after the first are numbers of at most 32 bits
abbrev pub HaveNumbers : ℕ → List ℕ → Type 0
HaveNumbers count words = (n : ℕ) → suc n < count → slice_index words (suc n) ≤ most_value

-- the first so many words can stand in a block of the part: a length that is the capacity, and numbers of 32 bits
pub record IsLined (part : Part) (count : ℕ) (words : List ℕ) : Type 0 where
  pub within : IsWithin count words
  pub all : 0 < count → slice_index words 0 ≡ part.cap
  pub values : HaveNumbers count words

-- numbers are still to come
pub record IsOpen (part : Part) (words : List ℕ) : Type 0 where
  pub lined : IsLined part (length words) words
  pub more : 0 < length words → length words ≤ slice_index words 0

-- the words are the length and all numbers
pub record IsWhole (part : Part) (words : List ℕ) : Type 0 where
  pub lined : IsLined part (length words) words
  pub all : length words ≡ suc (slice_index words 0)

-- what a walk's word says of the call: more words are needed, no state has them, the state stays and this is the reply,
-- or all is read
pub record IsStep (part : Part) (call : Call) (words : List ℕ) (step : Step) : Type 0 where
  pub waits : step ≡ Open → IsOpen part words
  pub broken : step ≡ Broken → HaveNone part words
  pub kept : (reply : Reply) → step ≡ Kept reply → IsKept part call words reply
  pub whole : step ≡ Whole → IsWhole part words

-- the numbers of a block that is read whole
abbrev pub numbers_of : List ℕ → List ℕ
numbers_of words = read_run words 1 (slice_index words 0)

-- words at places that follow each other
abbrev pub at_run : ℕ → List ℕ → List Taken
at_run place [] = []
at_run place (word ∷ words) = record { place = place; word = word } ∷ at_run (place + 1) words

-- what a step wants next, where this is the next place
abbrev pub want_as : Step → ℕ → Want
want_as Open place = Read place
want_as Broken place = Stale
want_as (Kept reply) place = Ready
want_as Whole place = Ready

-- what a walk wants that has so many words, from this place on. A block that does not fit the object's places is none
abbrev pub next_want : Home → Step → ℕ → ℕ → Want
next_want home step low count =
    if nat_lt (low + home.part.cap) (home.first + home.count) then want_as step (low + count) else Stale
