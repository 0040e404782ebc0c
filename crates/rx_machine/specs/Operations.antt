-- A machine as clauses see it: an operation on an object, and its open attempt.
use Rattle.std.specs.Prelude.{ℕ, ◌≡◌, ◌+◌, ◌<◌, Bool, true, false, List, [], length, take, Option, Some, None, IfSome}
use Rattle.rx_seq.specs.declared.calls.Call.{Call}
use Rattle.rx_seq.specs.declared.replies.Reply.{Reply}
use Rattle.rx_seq.specs.History.{part_at}
use Rattle.rx_seq.specs.Table.{fits_part}
use Rattle.rx_shape.specs.declared.homes.Home.{Home}
use Rattle.rx_shape.specs.declared.plans.Taken.{Taken}
use Rattle.rx_shape.specs.declared.plans.Write.{Write}
use Rattle.rx_shape.specs.declared.plans.Pair.{Pair}
use Rattle.rx_shape.specs.Layout.{Layout, home}
use Rattle.rx_shape.specs.Versions.{IsStale}
use Rattle.rx_shape.specs.Asks.{IsPlanned}
use Rattle.rx_port.specs.declared.views.Attempt.{Attempt}
use Rattle.rx_port.specs.declared.views.View.{View}
use Rattle.rx_port.specs.Core.{own_of}

-- a plan, and its reply
pub record Intent : Type 0 where
  pub root : ℕ
  pub writes : List Write
  pub pairs : List Pair
  pub reply : Reply

-- what the words that were read have shown so far: nothing, a plan, or that no version has them
pub data Outlook : Type 0 where
  Unsettled : Outlook
  Settled : Intent → Outlook
  Outdated : Outlook

-- an open attempt: how many steps it has made, the root that it expects, and the words that it has read and written
pub record Progress : Type 0 where
  pub made : ℕ
  pub expected : ℕ
  pub reads : List Taken
  pub writes : List Write

-- a machine as clauses see it: a call on an object, its open attempt, and what that has shown. It has ended where the
-- call is made or the tags are spent
pub record Operation : Type 0 where
  pub place : Home
  pub object : ℕ
  pub call : Call
  pub ended : Bool
  pub progress : Option Progress
  pub outlook : Outlook

-- the number of steps that the open attempt has made, and 0 where none is open
abbrev pub made_of : Option Progress → ℕ
made_of None = 0
made_of (Some progress) = progress.made

abbrev pub position : Operation → ℕ
position machine = made_of machine.progress

-- a machine that has made no step
abbrev pub fresh : Home → ℕ → Call → Operation
fresh place object call = record { place = place; object = object; call = call; ended = false; progress = None; outlook = Unsettled }

-- the machine while its attempt goes on
abbrev pub goes_on : Operation → Progress → Outlook → Operation
goes_on machine progress outlook = record machine { progress = Some progress; outlook = outlook }

-- the machine whose attempt is decided, and lost
abbrev pub lost : Operation → Operation
lost machine = record machine { progress = None; outlook = Unsettled }

-- the machine with nothing left to do
abbrev pub over : Operation → Operation
over machine = record machine { ended = true; progress = None; outlook = Unsettled }

-- an attempt that has loaded this root
abbrev pub begun : ℕ → Progress
begun root = record { made = 1; expected = root; reads = []; writes = [] }

-- no step of the attempt was idle
abbrev pub IsBusy : Progress → Type 0
IsBusy progress = progress.made ≡ 1 + length progress.reads + length progress.writes

-- the attempt of a machine, as a port has it
abbrev pub attempt_for : Operation → Progress → Attempt
attempt_for machine progress = record { object = machine.object; call = machine.call; expected = progress.expected; reads = progress.reads; writes = progress.writes }

-- what was shown is so, and the first writes of the plan were made
abbrev pub IsShown : Home → Call → Progress → List ℕ → Outlook → Type 0
IsShown place call progress own Unsettled = progress.writes ≡ []
IsShown place call progress own (Settled plan) =
    IsPlanned place call progress.expected progress.reads own plan.root plan.writes plan.pairs plan.reply × (progress.writes ≡ take (length progress.writes) plan.writes)
IsShown place call progress own Outdated = IsStale place progress.expected progress.reads × (progress.writes ≡ [])

-- the seat has the machine's attempt open, and a plan is one for its own places
pub record IsUnderWay (view : View) (machine : Operation) (progress : Progress) : Type 0 where
  pub is_open : view.attempt ≡ Some (attempt_for machine progress)
  pub shown : IsShown machine.place machine.call progress (own_of view machine.object) machine.outlook

-- a machine is one of this layout, and its open attempt is that of the seat: the seat has it open, what the words have
-- shown is so, and the first writes of the plan were made
pub record Follows (layout : Layout) (view : View) (machine : Operation) : Type 0 where
  pub exists : machine.object < length layout.parts
  pub place_is : machine.place ≡ home layout machine.object
  pub fits : fits_part (part_at layout.parts machine.object) machine.call ≡ true
  pub under_way : IfSome machine.progress (IsUnderWay view machine)
