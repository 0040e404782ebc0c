-- What a source and a sink tell of themselves.
use Rattle.std.specs.Prelude.{◌≡◌, ◌<◌, ◌+◌, ◌^◌, ℕ, Bool, false, cond, List, [], ◌∷◌, ◌++◌, Option, Result, Ok, Err, IfOk}

-- a call: how many bytes it asked to move, and how many it moved; one that failed moved none
pub record Transfer : Type 0 where
  pub asked : ℕ
  pub moved : ℕ

-- how many calls have failed, and whether the latest one has
pub record Failures : Type 0 where
  pub count : ℕ
  pub down : Bool

-- what a source tells: the bytes left, if it tells those; which calls may have been made of it, the latest first; and its failures
pub record SourceState : Type 1 where
  pub left : Option (List ℕ)
  pub calls : List Transfer → Type 0
  pub failures : Failures

-- what a sink tells: the bytes taken, if it tells those; which calls may have been made of it, the latest first; why it refused a piece in its latest call; and its failures
pub record SinkState : Type 1 where
  pub taken : Option (List ℕ)
  pub calls : List Transfer → Type 0
  pub refuses : List ℕ → Type 0
  pub failures : Failures

-- a call may be made: the latest did not fail, and one more failure can be counted
pub record MayBeCalled (failures : Failures) : Type 0 where
  pub few : failures.count < 2 ^ 63
  pub up : failures.down ≡ false

-- the failures of one that is called no more after its first failure
abbrev pub failures_of : Bool → Failures
failures_of down = record { count = cond down 1 0; down = down }

-- how many bytes a call moved
abbrev pub moved_by : {E : Type 0} → Result ℕ E → ℕ
moved_by (Ok count) = count
moved_by (Err error) = 0

-- a call that asked for so many bytes came after those before it
abbrev pub IsCalled : {E : Type 0} → (List Transfer → Type 0) → (List Transfer → Type 0) → ℕ → Result ℕ E → Type 0
IsCalled before after asked result = (past : List Transfer) → before past → after (record { asked = asked; moved = moved_by result } ∷ past)

-- a call for so many bytes came after those before it; how many it moved is told at `Ok` alone
abbrev pub MayBeTold : {E : Type 0} → (List Transfer → Type 0) → (List Transfer → Type 0) → ℕ → Result ℕ E → Type 0
MayBeTold before after asked result = (past : List Transfer) → before past → (moved : ℕ) × after (record { asked = asked; moved = moved } ∷ past) × IfOk result (λ count. moved ≡ count)

-- how many bytes all these calls moved
abbrev pub moved_in : List Transfer → ℕ
moved_in [] = 0
moved_in (call ∷ past) = moved_in past + call.moved

-- whatever calls came before, the calls since then are a list of which this holds
abbrev pub AreCalled : (List Transfer → Type 0) → (List Transfer → Type 0) → (List Transfer → Type 0) → Type 0
AreCalled before after P = (past : List Transfer) → before past → (calls : List Transfer) × P calls × after (calls ++ past)
