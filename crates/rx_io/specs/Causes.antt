-- When a fault is answered, and what runs of reads and writes leave.
use Rattle.std.specs.Prelude.{◌≡◌, ◌<◌, ◌≤◌, ◌+◌, ◌-◌, min, nat_lt, if◌then◌else◌, true, ℕ, List, [], ◌∷◌, ◌++◌, length, Option, Result, Ok, Err, OnOk, OnErr}
use Rattle.std.specs.List.{concat}
use Rattle.std.specs.Io.KnownBytes.{Appends, Consumes, IsAtEnd, Keeps}
use Rattle.rx_io.specs.declared.reads.ReadError.{ReadError}
use Rattle.rx_io.specs.declared.reads.ReadError.TheVariants.{Fault, Memory}
use Rattle.rx_io.specs.States.{Transfer, Failures, SourceState, SinkState, AreCalled, moved_in}

-- one call more has failed, and it is the latest
pub record HasFailed (before now : Failures) : Type 0 where
  pub more : now.count ≡ before.count + 1
  pub down : now.down ≡ true

-- the failures stay as they were at `Ok`, and at `Err` there is one more
pub record HasCause {T E : Type 0} (before now : Failures) (result : Result T E) : Type 0 where
  pub kept : OnOk result (now ≡ before)
  pub failed : OnErr result (HasFailed before now)

-- how many bytes of the current piece are left, once so many bytes of all pieces were taken
abbrev pub rest_of_piece : List (List ℕ) → ℕ → ℕ
rest_of_piece [] at = 0
rest_of_piece (piece ∷ pieces) at = if nat_lt at (length piece) then length piece - at else rest_of_piece pieces (at - length piece)

-- Calls that hand in these pieces, one after the other: each is for all that is left of the piece that the calls before it have come to, and the sink takes a byte or more of it.
abbrev pub ArePieces : List (List ℕ) → List Transfer → Type 0
ArePieces pieces [] = Unit {0}
ArePieces pieces (call ∷ past) = (0 < call.moved) × (call.moved ≤ call.asked) × (call.asked ≡ rest_of_piece pieces (moved_in past)) × ArePieces pieces past

-- such calls, by which so many bytes were taken, and then one for so many bytes that the sink refused
abbrev pub EndRefused : List (List ℕ) → ℕ → ℕ → List Transfer → Type 0
EndRefused pieces taken refused [] = ⊥
EndRefused pieces taken refused (call ∷ past) = (call.asked ≡ refused) × (call.moved ≡ 0) × ArePieces pieces past × (moved_in past ≡ taken)

-- All of these pieces were taken, in such calls and no others, and none of them failed.
pub record Takes (old new : SinkState) (pieces : List (List ℕ)) : Type 0 where
  pub bytes : Appends old.taken new.taken (concat pieces)
  pub calls : AreCalled old.calls new.calls (λ calls. ArePieces pieces calls × (moved_in calls ≡ length (concat pieces)))
  pub kept : new.failures ≡ old.failures

-- A front of these pieces was taken, in such calls and no others, and then one call more failed: in it the sink refused all that was left of a piece.
pub record TakesFront (old new : SinkState) (pieces : List (List ℕ)) : Type 0 where
  pub front : List ℕ
  pub refused : List ℕ
  pub rest : List ℕ
  pub parts : concat pieces ≡ front ++ (refused ++ rest)
  pub some : 0 < length refused
  pub cut : length refused ≡ rest_of_piece pieces (length front)
  pub bytes : Appends old.taken new.taken front
  pub calls : AreCalled old.calls new.calls (EndRefused pieces (length front) (length refused))
  pub refuses : new.refuses refused
  pub failed : HasFailed old.failures new.failures

-- Nothing was handed in.
pub record TakesNothing (old new : SinkState) : Type 0 where
  pub bytes : Keeps old.taken new.taken
  pub calls : AreCalled old.calls new.calls (λ calls. calls ≡ [])
  pub kept : new.failures ≡ old.failures

-- all of the pieces were taken at `Ok`, and a front of them at `Err`
abbrev pub Puts : {T E : Type 0} → SinkState → SinkState → Result T E → List (List ℕ) → Type 0
Puts old new (Ok x) pieces = Takes old new pieces
Puts old new (Err e) pieces = TakesFront old new pieces

-- each of the calls moved a byte or more
abbrev pub AllMove : List Transfer → Type 0
AllMove [] = Unit {0}
AllMove (call ∷ past) = (0 < call.moved) × AllMove past

-- Calls that read up to a limit by steps: each asks for as many bytes as a step has, or as are left up to the limit, and for one or more. None follows a call that moved nothing.
abbrev pub AreSteps : ℕ → ℕ → List Transfer → Type 0
AreSteps step limit [] = Unit {0}
AreSteps step limit (call ∷ past) = (0 < call.asked) × (call.asked ≡ min step (limit - moved_in past)) × AllMove past × AreSteps step limit past

-- a call of a source is asked for at most so many bytes
abbrev pub read_step : ℕ
read_step = 4096

-- What was read, in such calls and no others, is all to the end, or one byte more than may stand before it, and none of them failed.
pub record IsInput (most : ℕ) (old new : SourceState) (input : List ℕ) : Type 0 where
  pub taken : Consumes old.left new.left input
  pub few : length input ≤ most + 1
  pub end : length input ≤ most → IsAtEnd new.left
  pub calls : AreCalled old.calls new.calls (λ calls. AreSteps read_step (most + 1) calls × (moved_in calls ≡ length input))
  pub kept : new.failures ≡ old.failures

-- a piece of so many bytes was read and appended, and an empty one only at the end
pub record GotPiece (old new : Option (List ℕ)) (before after : List ℕ) (count : ℕ) : Type 0 where
  pub piece : List ℕ
  pub appended : after ≡ before ++ piece
  pub long : length piece ≡ count
  pub taken : Consumes old new piece
  pub end : count ≡ 0 → IsAtEnd new

-- a fault is told only where the latest call failed, and want of memory only where none did
abbrev pub ErrCause : Failures → Failures → ReadError → Type 0
ErrCause before now Fault = HasFailed before now
ErrCause before now Memory = now ≡ before

-- A reading ended early, after such calls and no others, and its error has its cause.
pub record StopsReading (most : ℕ) (old new : SourceState) (error : ReadError) : Type 0 where
  pub calls : AreCalled old.calls new.calls (AreSteps read_step (most + 1))
  pub cause : ErrCause old.failures new.failures error
