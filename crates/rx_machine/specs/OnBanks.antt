-- What the steps of a machine make of a bank.
use Rattle.std.specs.Prelude.{ℕ, ◌≡◌, ◌⊎◌, List, ◌∷◌, Option, None, Some, option_map}
use Rattle.rx_seq.specs.declared.entries.Entry.{Entry}
use Rattle.rx_shape.specs.Layout.{Layout, root_of}
use Rattle.rx_shape.specs.Words.{tag_of}
use Rattle.rx_port.specs.declared.views.Counts.{Counts}
use Rattle.rx_port.specs.declared.views.Core.{Core}
use Rattle.rx_port.specs.declared.views.View.{View}
use Rattle.rx_port.specs.Core.{entry_for, one_load, one_store, one_exchange}
use Rattle.rx_port.specs.Lawful.{Lawful}
use Rattle.rx_port.specs.Plain.{Whole, view_at, Moves}
use Rattle.rx_machine.specs.declared.steps.Step.{Step}
use Rattle.rx_machine.specs.declared.steps.Step.TheVariants.{Going, Idle, Won, Lost, Spent}
use Rattle.rx_machine.specs.Operations.{Progress, Operation, begun}
use Rattle.rx_machine.specs.Steps.{Tells}

-- a bank and a seat of it, as a port tells them
abbrev pub bank_stands : Whole → ℕ → Core → Type 0
bank_stands bank seat core = core ≡ bank.core

abbrev pub bank_view : Whole → ℕ → View
bank_view bank seat = view_at bank.core seat

-- a step of a seat of a bank, after which the bank names the seat by this number
abbrev pub TellsOf : Whole → ℕ → Whole → ℕ → Operation → Operation → Step → Type 0
TellsOf old seat now other machine after step = Tells old.layout bank_stands bank_view old seat now other machine after step

-- the history after a step: a win adds the entry of the call, and no other step adds any
abbrev pub history_by : Step → Entry → List Entry → List Entry
history_by Going entry history = history
history_by Idle entry history = history
history_by (Won reply tag) entry history = entry ∷ history
history_by (Lost expected found) entry history = history
history_by (Spent tag) entry history = history

-- a step makes one event, or none where it is idle: the first of an attempt a load, the last an exchange, and the others
-- a load or a store
abbrev pub AmidCounts : Option Progress → Option Counts → Option Counts → Type 0
AmidCounts None old now = now ≡ option_map one_load old
AmidCounts (Some progress) old now = (now ≡ option_map one_load old) ⊎ (now ≡ option_map one_store old)

abbrev pub CountsBy : Step → Option Progress → Option Counts → Option Counts → Type 0
CountsBy Going progress old now = AmidCounts progress old now
CountsBy Idle progress old now = now ≡ old
CountsBy (Won reply tag) progress old now = now ≡ option_map one_exchange old
CountsBy (Lost expected found) progress old now = now ≡ option_map one_exchange old
CountsBy (Spent tag) progress old now = now ≡ option_map one_load old

-- the words that a step tells: the root that it loads, the entry that it makes, or the root that it finds
abbrev pub Loaded : Option Progress → Core → ℕ → Option Progress → Type 0
Loaded None core object after = after ≡ Some (begun (root_of core.words object))
Loaded (Some progress) core object after = Unit {0}

abbrev pub SaysBy : Step → Layout → Core → Core → ℕ → Operation → Operation → Type 0
SaysBy Going layout old now seat machine after = Loaded machine.progress old machine.object after.progress
SaysBy Idle layout old now seat machine after = now ≡ old
SaysBy (Won reply tag) layout old now seat machine after =
    (history : List Entry) → Lawful layout old.words old.views history
    → (reply ≡ (entry_for layout history seat machine.object machine.call).reply) × (tag ≡ (entry_for layout history seat machine.object machine.call).tag)
SaysBy (Lost expected found) layout old now seat machine after = (found ≡ root_of old.words machine.object) × (now.words ≡ old.words)
SaysBy (Spent tag) layout old now seat machine after = tag ≡ tag_of (root_of old.words machine.object)

-- the bank after a step of a seat, which has this view after it, for every history that the bank stood for: a win adds
-- the entry of the call, and no other step adds any; each count rises by what the step did
pub record Stepped (layout : Layout) (old now : Core) (seat : ℕ) (view : View) (machine after : Operation) (step : Step) : Type 0 where
  pub moves : Moves layout old now seat view (λ history. history_by step (entry_for layout history seat machine.object machine.call) history)
  pub counts : CountsBy step machine.progress old.counts now.counts
  pub says : SaysBy step layout old now seat machine after
