-- What a machine does, as its code keeps it.
use Rattle.std.specs.Prelude.{ℕ, zero, suc, ◌≡◌, ◌+◌, ◌<◌, ◌≤◌, ◌^◌, ◌≢◌, true, List, [], length, take, get_or, Option, Some, None}
use Rattle.rx_seq.specs.Table.{IsPart, attempt_steps, fits_part}
use Rattle.rx_shape.specs.declared.plans.Write.{Write}
use Rattle.rx_shape.specs.declared.plans.Want.TheVariants.{Read}
use Rattle.rx_shape.specs.Words.{tag_of, low_of}
use Rattle.rx_shape.specs.Forms.{stock_size, InRange}
use Rattle.rx_shape.specs.Layout.{Layout}
use Rattle.rx_port.specs.declared.views.Core.{Core}
use Rattle.rx_port.specs.declared.views.View.{View}
use Rattle.rx_machine.specs.declared.steps.Step.{Step}
use Rattle.rx_machine.specs.declared.machine_states.Stage.{Stage}
use Rattle.rx_machine.specs.declared.machine_states.Stage.TheVariants.{Reading, Writing, Waiting}
use Rattle.rx_machine.specs.declared.machine_states.MachineState.{MachineState}
use Rattle.rx_machine.specs.AnyShapes.{any_home, any_asked, any_next, any_room, any_taken}
use Rattle.rx_machine.specs.Operations.{Intent, Outlook, Unsettled, Settled, Outdated, Progress, Operation, Follows}
use Rattle.rx_machine.specs.Steps.{Tells}
use Rattle.rx_machine.specs.Turns.{Turns, IsIdleRun, Passes}

-- the plan of a machine, and its reply
abbrev pub intent_of : MachineState → Intent
intent_of state = record { root = state.plan.root; writes = state.plan.writes.items; pairs = state.plan.trade.pairs.items; reply = state.reply }

-- what the words have shown, and which writes were made, by the stage of the attempt
abbrev pub outlook_by : Stage → Intent → Outlook
outlook_by Reading plan = Unsettled
outlook_by Writing plan = Settled plan
outlook_by Waiting plan = Outdated

abbrev pub writes_by : Stage → ℕ → List Write → List Write
writes_by Reading written writes = []
writes_by Writing written writes = take written writes
writes_by Waiting written writes = []

-- the open attempt; the same and what it has shown, where a step was made
abbrev pub progress_of : MachineState → Progress
progress_of state = record {
  made = state.made;
  expected = state.root;
  reads = any_taken state.shape state.root;
  writes = writes_by state.stage state.written state.plan.writes.items;
}

abbrev pub progress_if : ℕ → Progress → Option Progress
progress_if zero progress = None
progress_if (suc made) progress = Some progress

abbrev pub outlook_if : ℕ → Outlook → Outlook
outlook_if zero outlook = Unsettled
outlook_if (suc made) outlook = outlook

-- what clauses see of a machine
abbrev pub operation_of : MachineState → Operation
operation_of state = record {
  place = state.home;
  object = state.object;
  call = state.call;
  ended = state.ended;
  progress = progress_if state.made (progress_of state);
  outlook = outlook_if state.made (outlook_by state.stage (intent_of state));
}

-- the steps of the attempt so far, by its stage: none was idle before the last word was written
abbrev pub IsCounted : Stage → ℕ → ℕ → ℕ → ℕ → Type 0
IsCounted Reading made reads written writes = made ≡ 1 + reads
IsCounted Writing made reads written writes = (written ≤ writes) × (1 + reads + written ≤ made) × (written < writes → made ≡ 1 + reads + written)
IsCounted Waiting made reads written writes = 1 + reads ≤ made

-- an attempt whose words no version has will trade nothing
abbrev pub IsIdleTrade : Stage → MachineState → Type 0
IsIdleTrade Reading state = Unit {0}
IsIdleTrade Writing state = Unit {0}
IsIdleTrade Waiting state = state.plan.trade.pairs.items ≡ []

-- an open attempt
pub record IsRunning (state : MachineState) : Type 0 where
  pub shape_home : any_home state.shape ≡ state.home
  pub shape_call : any_asked state.shape ≡ state.call
  pub room : tag_of state.root + 1 < 2 ^ 40
  pub here : 0 < stock_size state.home.part → InRange state.home (low_of state.root)
  pub early : state.made < attempt_steps state.home.part
  pub few : length (any_taken state.shape state.root) ≤ state.home.part.cap + 2
  pub counted : IsCounted state.stage state.made (length (any_taken state.shape state.root)) state.written (length state.plan.writes.items)
  pub trade : IsIdleTrade state.stage state

-- what holds between the steps
pub record IsMachineState (state : MachineState) : Type 0 where
  pub part : IsPart state.home.part
  pub fits : fits_part state.home.part state.call ≡ true
  pub places : state.home.first + state.home.count ≤ 16777215
  pub steps : state.steps ≡ attempt_steps state.home.part
  pub running : 0 < state.made → IsRunning state

-- an open attempt, which the seat has open too
pub record IsGoing (layout : Layout) (view : View) (state : MachineState) : Type 0 where
  pub work_is : IsMachineState state
  pub many : 0 < state.made
  pub follows : Follows layout view (operation_of state)

-- the next place that the attempt reads
pub record IsNextPlace (state : MachineState) (place : ℕ) : Type 0 where
  pub stage : state.stage ≡ Reading
  pub next : any_next state.shape state.root ≡ Read place
  pub range : InRange state.home place
  pub few : length (any_taken state.shape state.root) < state.home.part.cap + 2
  pub room : any_room state.shape

-- the attempt reads no next place
abbrev pub HasNoPlace : MachineState → Type 0
HasNoPlace state = state.stage ≡ Reading → (place : ℕ) → any_next state.shape state.root ≡ Read place → ⊥

-- the next write of the plan
pub record IsNextWrite (state : MachineState) (write : Write) : Type 0 where
  pub stage : state.stage ≡ Writing
  pub more : state.written < length state.plan.writes.items
  pub is : write ≡ get_or state.plan.writes.items state.written write

-- all writes of the plan were made, or no version has the words that were read
pub record HasNoWrite (state : MachineState) : Type 0 where
  pub stage : state.stage ≢ Reading
  pub all : state.stage ≡ Writing → state.written ≡ length state.plan.writes.items

-- the plan is made, or there is none: nothing else is new
pub record HasSettled (layout : Layout) (view : View) (old new : MachineState) : Type 0 where
  pub going : IsGoing layout view new
  pub stage : new.stage ≢ Reading
  pub same : operation_of new ≡ record (operation_of old) { outlook = outlook_by new.stage (intent_of new) }

-- the idle steps that are left were passed over
pub record HasPassed (old new : MachineState) : Type 0 where
  pub passes : Passes (operation_of old) (operation_of new)
  pub idle : IsIdleRun (operation_of old) (operation_of new)
  pub follows : (layout : Layout) (view : View) → Follows layout view (operation_of old) → Follows layout view (operation_of new)
  pub work_is : IsMachineState new

-- a step was made
module _ {P S : Type 0} (layout : Layout) (stands : P → S → Core → Type 0) (view : P → S → View) (port : P) (seat : S) (port' : P) (seat' : S) where
  pub record HasStepped (old new : MachineState) (step : Step) : Type 0 where
    pub tells : Tells layout stands view port seat port' seat' (operation_of old) (operation_of new) step
    pub turns : Turns (operation_of old) step (operation_of new)
    pub follows : Follows layout (view port' seat') (operation_of new)
    pub work_is : IsMachineState new
