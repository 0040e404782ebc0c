-- Worked rows of machines: the steps of an attempt, positions, and what a step adds to a history.
use Rattle.std.specs.Prelude.{◌≡◌, refl, [], ◌∷◌}
use Rattle.rx_seq.specs.declared.kinds.Kind.TheVariants.{Cell, Queue, Registers, List as Ordered}
use Rattle.rx_seq.specs.declared.calls.Call.TheVariants.{Take}
use Rattle.rx_seq.specs.declared.entries.Entry.{Entry}
use Rattle.rx_seq.specs.declared.replies.Reply.TheVariants.{Empty}
use Rattle.rx_shape.specs.declared.homes.Home.{Home}
use Rattle.rx_machine.specs.declared.steps.Step.TheVariants.{Going, Idle, Won, Lost, Spent}
use Rattle.rx_seq.specs.Table.{attempt_steps}
use Rattle.rx_machine.specs.Operations.{Unsettled, Operation, position, fresh, begun, goes_on, lost, over}
use Rattle.rx_machine.specs.OnBanks.{history_by}

-- the steps of an attempt on an object of each kind
pub cell_steps : attempt_steps (record { kind = Cell; cap = 1 }) ≡ 2
cell_steps = refl

pub queue_steps : attempt_steps (record { kind = Queue; cap = 1 }) ≡ 8
queue_steps = refl

pub list_steps : attempt_steps (record { kind = Ordered; cap = 4 }) ≡ 14
list_steps = refl

pub registers_steps : attempt_steps (record { kind = Registers; cap = 16 }) ≡ 38
registers_steps = refl

-- a machine that takes from a queue of one number at places 4 to 9
abbrev place : Home
place = record { part = record { kind = Queue; cap = 1 }; first = 4; count = 6 }

abbrev taker : Operation
taker = fresh place 1 Take

-- it has made no step, and one once the root is loaded; where the attempt is lost or the call made it has none again
pub fresh_position : position taker ≡ 0
fresh_position = refl

pub begun_position : position (goes_on taker (begun 4) Unsettled) ≡ 1
begun_position = refl

pub lost_position : position (lost (goes_on taker (begun 4) Unsettled)) ≡ 0
lost_position = refl

pub over_position : position (over (goes_on taker (begun 4) Unsettled)) ≡ 0
over_position = refl

-- a win adds its entry to the history, and no other step does
abbrev made : Entry
made = record { caller = 0; index = 1; object = 1; call = Take; reply = Empty; tag = 0 }

pub win_adds : history_by (Won Empty 0) made [] ≡ made ∷ []
win_adds = refl

pub loss_adds_none : history_by (Lost 0 16777217) made [] ≡ []
loss_adds_none = refl

pub load_adds_none : history_by Going made [] ≡ []
load_adds_none = refl

pub idle_adds_none : history_by Idle made [] ≡ []
idle_adds_none = refl

pub spent_adds_none : history_by (Spent 1099511627775) made [] ≡ []
spent_adds_none = refl
