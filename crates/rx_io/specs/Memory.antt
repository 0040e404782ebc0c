-- A source and a sink in memory, and what a call makes of them.
use Rattle.std.specs.Prelude.{◌≡◌, ◌+◌, ◌-◌, ◌^◌, ◌==◌, ◌&&◌, not, min, ℕ, List, ◌++◌, Bool, true, length, drop, Some}
use Rattle.std.specs.List.{list_any}
use Rattle.rx_io.specs.States.{Transfer, SourceState, SinkState, failures_of}

-- what is left, how many bytes a call gives at most, which calls fail, how many calls there were, and whether the latest failed
pub record MemoryIn : Type 0 where
  pub left : List ℕ
  pub step : ℕ
  pub fails : List ℕ
  pub calls : ℕ
  pub down : Bool

-- what was taken, how many bytes at most in all and in a call, which calls fail, how many calls there were, and whether the latest failed
pub record MemoryOut : Type 0 where
  pub taken : List ℕ
  pub room : ℕ
  pub step : ℕ
  pub fails : List ℕ
  pub calls : ℕ
  pub down : Bool

-- the number of the next call, which stands still at the end of a word of 64 bits
abbrev pub next_call : ℕ → ℕ
next_call calls = min (calls + 1) (2 ^ 64 - 1)

-- calls are counted up to the end of a word of 64 bits
abbrev pub AreCounted : ℕ → List Transfer → Type 0
AreCounted calls past = calls ≡ min (length past) (2 ^ 64 - 1)

-- what a source in memory tells: the bytes left, and how many calls were made
abbrev pub source_state : MemoryIn → SourceState
source_state source = record { left = Some source.left; calls = AreCounted source.calls; failures = failures_of source.down }

-- what a sink in memory tells: the bytes taken, and how many calls were made
abbrev pub sink_state : MemoryOut → SinkState
sink_state sink = record { taken = Some sink.taken; calls = AreCounted sink.calls; refuses = λ piece. Unit {0}; failures = failures_of sink.down }

-- the call of this number is one that fails
abbrev pub is_listed : ℕ → List ℕ → Bool
is_listed call fails = list_any (λ m. m == call) fails

-- how many bytes a read gives to a buffer of this length
abbrev pub given_count : MemoryIn → ℕ → ℕ
given_count source room = min source.step (min room (length source.left))

-- the source after a read that gave so many bytes
abbrev pub after_read : MemoryIn → ℕ → MemoryIn
after_read source count = record source { left = drop count source.left; calls = next_call source.calls }

-- the source after a read that failed
abbrev pub after_failed_read : MemoryIn → MemoryIn
after_failed_read source = record source { calls = next_call source.calls; down = true }

-- there is no room for any byte of the piece
abbrev pub is_full : MemoryOut → List ℕ → Bool
is_full sink piece = (length sink.taken == sink.room) && not (length piece == 0)

-- how many bytes a write takes of a piece of this length
abbrev pub taken_count : MemoryOut → ℕ → ℕ
taken_count sink long = min sink.step (min (sink.room - length sink.taken) long)

-- the sink after a write that took these bytes
abbrev pub after_write : MemoryOut → List ℕ → MemoryOut
after_write sink bytes = record sink { taken = sink.taken ++ bytes; calls = next_call sink.calls }

-- the sink after a write that failed
abbrev pub after_failed_write : MemoryOut → MemoryOut
after_failed_write sink = record sink { calls = next_call sink.calls; down = true }
