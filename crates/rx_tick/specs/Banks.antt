-- The bank that an executive makes its attempts on, against the schedule.
use Rattle.std.specs.Prelude.{ℕ, zero, suc, ◌≡◌, ◌≢◌, ◌≤◌, ◌<◌, ◌+◌, ◌^◌, false, List, ◌∷◌, length, slice_index, slice_set, get_or, Option, Some, None, option_map}
use Rattle.rx_seq.specs.declared.calls.Call.{Call}
use Rattle.rx_seq.specs.declared.entries.Entry.{Entry}
use Rattle.rx_set.specs.declared.items.Item.{Item}
use Rattle.rx_set.specs.declared.items.Item.TheVariants.{Work, Op}
use Rattle.rx_set.specs.declared.jobs.Job.{Job}
use Rattle.rx_set.specs.System.{System, parts_of, task_of, item_at}
use Rattle.rx_set.specs.Valid.{IsJob, IsValid}
use Rattle.rx_shape.specs.Words.{tag_of as tag_in}
use Rattle.rx_port.specs.declared.views.Counts.{Counts}
use Rattle.rx_port.specs.declared.views.Core.{Core}
use Rattle.rx_port.specs.Core.{one_load, one_store, one_exchange, own_of}
use Rattle.rx_port.specs.Lawful.{Lawful}
use Rattle.rx_port.specs.Plain.{Whole, view_at, HasRoom, IsSeatOf}
use Rattle.rx_machine.specs.declared.steps.Step.{Step}
use Rattle.rx_machine.specs.Operations.{Operation, Follows, Progress as Attempting}
use Rattle.rx_machine.specs.OnBanks.{TellsOf}
use Rattle.rx_tick.specs.declared.objects.Objects.{Objects}
use Rattle.rx_tick.specs.declared.states.Made.{Made}
use Rattle.rx_tick.specs.declared.states.State.{State}
use Rattle.rx_slots.specs.Schedule.{Slot, Idle, Busy, Decide, job_in, after, progress, history, slots, slot_at}
use Rattle.rx_slots.specs.Events.{wins_below}
use Rattle.rx_slots.specs.Laws.{who}
use Rattle.rx_tick.specs.Sums.{AreSums}
use Rattle.rx_tick.specs.States.{job, state_at, after_slot, progress_made, progress_of}

-- a bank is that of a system after some slots: it has the system's objects, whose tags start at 0, and a seat for each
-- task, and its words and seats stand for the history of these slots
pub record IsBankOf (system : System) (past : List Slot) (bank : Whole) : Type 0 where
  pub parts : bank.layout.parts ≡ parts_of system
  pub seats : bank.layout.seats ≡ length system.tasks
  pub first : bank.layout.first ≡ 0
  pub lawful : Lawful bank.layout bank.core.words bank.core.views (history past)

-- what a slot may do to the words: nothing, a load, a store or an exchange
pub data Touch : Type 0 where
  Nothing : Touch
  Load : Touch
  Store : Touch
  Exchange : Touch

-- the counts after such a touch
abbrev pub touched : Touch → Counts → Counts
touched Nothing counts = counts
touched Load counts = one_load counts
touched Store counts = one_store counts
touched Exchange counts = one_exchange counts

-- a tick of an operation that is not the last of its attempt: the first one loads, and the others load, store or do neither
abbrev pub TouchesAfter : ℕ → Touch → Type 0
TouchesAfter zero touch = touch ≡ Load
TouchesAfter (suc made) touch = touch ≢ Exchange

-- a tick that decides nothing, by the item in hand and its ticks so far
abbrev pub TouchesIn : Option Item → ℕ → Touch → Type 0
TouchesIn None made touch = touch ≡ Nothing
TouchesIn (Some (Work ticks)) made touch = touch ≡ Nothing
TouchesIn (Some (Op object call)) made touch = TouchesAfter made touch

-- which of these a slot does that comes after the past: an idle slot and a tick of work touch nothing; the first tick
-- of an attempt loads, the last exchanges, and those in between load, store or do neither
abbrev pub MayTouch : System → List Slot → Slot → Touch → Type 0
MayTouch system past Idle touch = touch ≡ Nothing
MayTouch system past (Busy mine) touch = TouchesIn (item_at system mine (progress system mine past).complete) (progress system mine past).made touch
MayTouch system past (Decide mine object outcome) touch = touch ≡ Exchange

-- a store goes into a place that the seat of the slot's job owns
pub record StoresOwn (slot : Slot) (old now : Core) : Type 0 where
  pub mine : Job
  pub has : job_in slot ≡ Some mine
  pub object : ℕ
  pub own : ℕ
  pub below : own < length (own_of (view_at old mine.task) object)
  pub value : ℕ
  pub words : now.words ≡ slice_set old.words (slice_index (own_of (view_at old mine.task) object) own) value

-- an exchange goes to the root of the object on which the slot decides an attempt
pub record SwingsRoot (slot : Slot) (old now : Core) : Type 0 where
  pub mine : Job
  pub object : ℕ
  pub outcome : Option Entry
  pub decides : slot ≡ Decide mine object outcome
  pub root : ℕ
  pub words : now.words ≡ slice_set old.words (object + 1) root

-- the words after a slot: at most the one that is stored or exchanged has changed
abbrev pub WordsAfter : Slot → Touch → Core → Core → Type 0
WordsAfter slot Nothing old now = now.words ≡ old.words
WordsAfter slot Load old now = now.words ≡ old.words
WordsAfter slot Store old now = StoresOwn slot old now
WordsAfter slot Exchange old now = SwingsRoot slot old now

-- the seats of all tasks but that of the slot's job are as before
abbrev pub KeepsOthers : Slot → Core → Core → Type 0
KeepsOthers slot old now = (seat : ℕ) → ((mine : Job) → job_in slot ≡ Some mine → seat ≢ mine.task) → view_at now seat ≡ view_at old seat

-- what a slot makes of a bank: the counts rise by what the slot does, which is one that it may; the words change by
-- that alone, and no seat of another task; where nothing is touched, nothing changes at all
pub record Touches (system : System) (past : List Slot) (slot : Slot) (old now : Whole) : Type 0 where
  pub touch : Touch
  pub may : MayTouch system past slot touch
  pub rise : now.core.counts ≡ option_map (touched touch) old.core.counts
  pub layout : now.layout ≡ old.layout
  pub quiet : touch ≡ Nothing → now ≡ old
  pub words : WordsAfter slot touch old.core now.core
  pub others : KeepsOthers slot old.core now.core

-- the machine of a task, from its first operation on
abbrev pub machine_at : Objects → ℕ → Option Operation
machine_at objects task = get_or objects.machines.items task None

-- the machine of a task is at work on this call: it has made so many steps of an attempt, which the task's seat has open, and expects the tag that the object had at the attempt's first slot
pub record IsAtWork (past : List Slot) (objects : Objects) (task made first object : ℕ) (call : Call) : Type 0 where
  pub machine : Operation
  pub step : Attempting
  pub there : machine_at objects task ≡ Some machine
  pub on : machine.object ≡ object
  pub calls : machine.call ≡ call
  pub going : machine.ended ≡ false
  pub under_way : machine.progress ≡ Some step
  pub position : step.made ≡ made
  pub tag : tag_in step.expected ≡ wins_below object first past
  pub follows : Follows objects.bank.layout (view_at objects.bank.core task) machine

-- a task whose started job has made ticks of an attempt has its machine at work on it, by as many steps as ticks
abbrev pub IsInHand : System → List Slot → Objects → ℕ → State → Type 0
IsInHand system past objects task s =
    1 ≤ s.made → (object : ℕ) (call : Call) → item_at system (job task (s.finished + 1)) s.complete ≡ Some (Op object call) → IsAtWork past objects task s.made s.first object call

-- what an executive keeps of its bank: it is that of the system after the slots so far, its counts are the sums, there
-- is room for a machine of each task, and each task's attempt in hand is its machine's
pub record IsKept (system : System) (past : List Slot) (states : List State) (objects : Objects) : Type 0 where
  pub of : IsBankOf system past objects.bank
  pub sums : AreSums system past objects.bank.core.counts
  pub machines : length objects.machines.items ≡ length system.tasks
  pub hands : (task : ℕ) → task < length system.tasks → IsInHand system past objects task (state_at states task)

-- what holds before a slot of the job that has it, of the state of its task, and of the bank and the machines
pub record IsTicking (system : System) (now : ℕ) (mine : Job) (s : State) (objects : Objects) : Type 0 where
  pub valid : IsValid system
  pub early : now < 2 ^ 40
  pub known : IsJob system mine
  pub owner : who system now ≡ Some mine
  pub number : mine.number ≡ s.finished + 1
  pub started : progress system mine (slots system now) ≡ progress_of s
  pub unfinished : s.complete < length (task_of system mine).items
  pub stands : IsBankOf system (slots system now) objects.bank
  pub sums : AreSums system (slots system now) objects.bank.core.counts
  pub machines : length objects.machines.items ≡ length system.tasks
  pub hand : IsInHand system (slots system now) objects mine.task s

-- the machines of all other tasks are as before
pub record KeepsMachines (task : ℕ) (old new : Objects) : Type 0 where
  pub count : length new.machines.items ≡ length old.machines.items
  pub others : (other : ℕ) → other ≢ task → machine_at new other ≡ machine_at old other

-- what the tick makes of them: the state is brought on as the schedule says, the bank stands for the history with this
-- slot, and the machines of other tasks are as before
pub record HasTicked (system : System) (now : ℕ) (mine : Job) (s : State) (tick : Made) (old new : Objects) : Type 0 where
  pub made : progress_made tick now (progress_of s) ≡ after system mine now (slot_at system now) (progress_of s)
  pub stands : IsBankOf system (slot_at system now ∷ slots system now) new.bank
  pub hand : IsInHand system (slot_at system now ∷ slots system now) new mine.task (after_slot system now mine (slot_at system now) s)
  pub touches : Touches system (slots system now) (slot_at system now) old.bank new.bank
  pub machines : KeepsMachines mine.task old new

-- a machine can make a step with the seat of its task
pub record CanStep (bank : Whole) (seat : ℕ) (machine : Option Operation) : Type 0 where
  pub operation : Operation
  pub there : machine ≡ Some operation
  pub going : operation.ended ≡ false
  pub ours : IsSeatOf bank seat
  pub follows : Follows bank.layout (view_at bank.core seat) operation
  pub room : HasRoom 1 bank.core

-- what a step of a machine did to it and to the bank, which then names the seat by this number
pub record HasStepped (old new : Whole) (seat : ℕ) (before now : Option Operation) (step : Step) : Type 0 where
  pub was : Operation
  pub is : Operation
  pub there : before ≡ Some was
  pub stays : now ≡ Some is
  pub after : ℕ
  pub tells : TellsOf old seat new after was is step
  pub follows : Follows new.layout (view_at new.core after) is
  pub layout : new.layout ≡ old.layout
