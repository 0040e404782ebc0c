-- What becomes of a machine by its steps, whatever the port.
use Rattle.std.specs.Prelude.{ℕ, ◌≡◌, ◌+◌, ◌<◌, ◌≤◌, ◌⊎◌, List, [], ◌∷◌, ◌++◌, length, replicate, None, Some, IfSome}
use Rattle.rx_machine.specs.declared.steps.Step.{Step}
use Rattle.rx_machine.specs.declared.steps.Step.TheVariants.{Going, Idle, Won, Lost, Spent}
use Rattle.rx_seq.specs.Table.{attempt_steps}
use Rattle.rx_machine.specs.Operations.{Outlook, Unsettled, Settled, Outdated, Progress, Operation, position, goes_on, lost, over, IsBusy}

-- the attempt goes on by an event. No step of it was idle
pub record Goes (old new : Operation) : Type 0 where
  pub next : Progress
  pub outlook : Outlook
  pub new_is : new ≡ goes_on old next outlook
  pub one : next.made ≡ position old + 1
  pub early : next.made < attempt_steps old.place.part
  pub busy : IfSome old.progress IsBusy
  pub still : IsBusy next

-- the attempt goes on by no event. It has more steps than events
pub record Waits (old new : Operation) : Type 0 where
  pub progress : Progress
  pub is : old.progress ≡ Some progress
  pub next : Progress
  pub outlook : Outlook
  pub new_is : new ≡ goes_on old next outlook
  pub one : next.made ≡ progress.made + 1
  pub early : next.made < attempt_steps old.place.part
  pub idle : 1 + length next.reads + length next.writes < next.made

-- the attempt is decided, in its last step
pub record Ends (old new now : Operation) : Type 0 where
  pub progress : Progress
  pub is : old.progress ≡ Some progress
  pub last : progress.made + 1 ≡ attempt_steps old.place.part
  pub new_is : new ≡ now

-- the attempt ends with its first step
pub record Stops (old new : Operation) : Type 0 where
  pub first : old.progress ≡ None
  pub new_is : new ≡ over old

-- what each answer of a step tells of the machine: its attempt goes on by one step and fewer are made than an attempt
-- has, or the step was the last, or the first
abbrev pub Turns : Operation → Step → Operation → Type 0
Turns old Going new = Goes old new
Turns old Idle new = Waits old new
Turns old (Won reply tag) new = Ends old new (over old)
Turns old (Lost expected found) new = Ends old new (lost old)
Turns old (Spent tag) new = Stops old new

-- these steps, one after the other
abbrev pub IsRun : Operation → List Step → Operation → Type 0
IsRun old [] new = new ≡ old
IsRun old (step ∷ steps) new = (middle : Operation) × Turns old step middle × IsRun middle steps new

-- none of the steps ends an attempt
abbrev pub GoesOn : Step → Type 0
GoesOn Going = Unit {0}
GoesOn Idle = Unit {0}
GoesOn (Won reply tag) = ⊥
GoesOn (Lost expected found) = ⊥
GoesOn (Spent tag) = ⊥

abbrev pub AllGoOn : List Step → Type 0
AllGoOn [] = Unit {0}
AllGoOn (step ∷ steps) = GoesOn step × AllGoOn steps

-- the step decides an attempt
abbrev pub IsDecided : Step → Type 0
IsDecided Going = ⊥
IsDecided Idle = ⊥
IsDecided (Won reply tag) = Unit {0}
IsDecided (Lost expected found) = Unit {0}
IsDecided (Spent tag) = ⊥

-- events come before idle steps
pub record IsInOrder (steps : List Step) : Type 0 where
  pub going : ℕ
  pub idle : ℕ
  pub steps_are : steps ≡ replicate going Going ++ replicate idle Idle

-- some idle steps, one after the other, or none
abbrev pub IsIdleRun : Operation → Operation → Type 0
IsIdleRun old new = (count : ℕ) × IsRun old (replicate count Idle) new

-- nothing but idle steps and the exchange is left of an attempt: each write of its plan was made, or it is given up
abbrev pub IsThrough : Progress → Outlook → Type 0
IsThrough progress Unsettled = ⊥
IsThrough progress (Settled plan) = length progress.writes ≡ length plan.writes
IsThrough progress Outdated = Unit {0}

-- the next step is the last one of the attempt, which is through
pub record Skips (old new : Operation) : Type 0 where
  pub progress : Progress
  pub is : old.progress ≡ Some progress
  pub through : IsThrough progress old.outlook
  pub made : ℕ
  pub new_is : new ≡ goes_on old (record progress { made = made }) old.outlook
  pub later : progress.made ≤ made
  pub last : made + 1 ≡ attempt_steps old.place.part

-- nothing changes, since no attempt is open that is through
pub record Stays (old new : Operation) : Type 0 where
  pub left : (progress : Progress) → old.progress ≡ Some progress → IsThrough progress old.outlook → ⊥
  pub new_is : new ≡ old

-- the idle steps that are left are passed over
abbrev pub Passes : Operation → Operation → Type 0
Passes old new = Skips old new ⊎ Stays old new
