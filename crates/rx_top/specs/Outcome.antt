-- What the top call answers, writes and leaves.
use Rattle.std.specs.Prelude.{ℕ, ◌≡◌, ◌≢◌, ◌<◌, ◌≤◌, ◌+◌, ◌==◌, ◌↔◌, nat_le, Bool, true, false, if◌then◌else◌, List, [], ◌∷◌, length, codes, Option, Some, None, IsSome, IfSome, Result, Ok, Err}
use Rattle.rx_io.specs.declared.status.Status.{Status}
use Rattle.rx_io.specs.declared.status.Status.TheVariants.{Done, Adverse, Words, ReadFault, TooLarge, NotToml, BadSet, WriteFault, NoMemory, Wide, Long}
use Rattle.rx_io.specs.States.{SourceState, SinkState, AreCalled}
use Rattle.rx_io.specs.Causes.{AreSteps, HasFailed, IsInput, Takes, TakesFront, TakesNothing, read_step}
use Rattle.rx_set.specs.declared.policies.Policy.{Policy}
use Rattle.rx_set.specs.declared.policies.Policy.TheVariants.{Rm, Dm, Edf}
use Rattle.rx_set.specs.System.{System, parts_of}
use Rattle.rx_set.specs.Valid.{IsValid, KeepsCosts}
use Rattle.rx_set.specs.Admission.{EachIsServed, EachSpanFits, due_need}
use Rattle.rx_set.specs.Generator.{generated}
use Rattle.rx_fixed.specs.declared.verdicts.Verdict.{Verdict}
use Rattle.rx_fixed.specs.declared.verdicts.Verdict.TheVariants.{Yes, No}
use Rattle.rx_fixed.specs.Verdicts.{verdict_of}
use Rattle.rx_edf.specs.declared.verdicts.EdfVerdict.{EdfVerdict}
use Rattle.rx_edf.specs.declared.verdicts.EdfVerdict.TheVariants as edf
use Rattle.rx_edf.specs.Verdicts.{verdict_of as edf_verdict_of}
use Rattle.rx_file.specs.declared.faults.FileFault.{FileFault}
use Rattle.rx_file.specs.declared.faults.FileFault.TheVariants as fault
use Rattle.rx_file.specs.SetOf.{set_of}
use Rattle.rx_report.specs.Lines.{fault_line}
use Rattle.rx_top.specs.declared.left.Left.{Left}
use Rattle.rx_top.specs.declared.left.Left.TheVariants.{Nothing}
use Rattle.rx_top.specs.declared.stops.Stop.{Stop}
use Rattle.rx_top.specs.declared.stops.Stop.TheVariants.{Read, Write, Memory}
use Rattle.rx_top.specs.declared.words.Command.{Command}
use Rattle.rx_top.specs.declared.words.Command.TheVariants.{Ask, Draw}
use Rattle.rx_top.specs.declared.words.Query.{Query}
use Rattle.rx_top.specs.declared.words.Query.TheVariants.{Run, Admit, Lanes}
use Rattle.rx_top.specs.Words.{reads_input}
use Rattle.rx_top.specs.Stops.{ending_of}
use Rattle.rx_ledger.specs.Intervals.{any_job, retries, preemptions, releases}
use Rattle.rx_seq.specs.declared.entries.Entry.{Entry}
use Rattle.rx_seq.specs.Legal.{IsLegal}
use Rattle.rx_slots.specs.Charges.{of_rank_to, of_rank_below}
use Rattle.rx_slots.specs.Laws.{FollowsBodies}
use Rattle.rx_slots.specs.Schedule.{history, slots}
use Rattle.rx_trace.specs.Tests.{admit_report, test_line}
use Rattle.rx_top.specs.Drawn.{drawn_report, drawn_ticks}
use Rattle.rx_trace.specs.Report.{report, reported_events, reported_misses}
use Rattle.rx_lanes.specs.Histories.{IsMade, Made, made_of}
use Rattle.rx_top.specs.LaneReport.{TellsCalls, lanes_report}
use Rattle.rx_top.specs.Leaves.{ToLeave, LeaveNothing, LeaveBank, LeaveTable, Leaves}

-- what a source and a sink tell at one moment
pub record Ends : Type 1 where
  pub source : SourceState
  pub sink : SinkState

abbrev pub ends : SourceState → SinkState → Ends
ends source sink = record { source = source; sink = sink }

-- a status, the lines that are written with it, the set that it is about, what lanes made of it, and what is left
pub record Answer : Type 0 where
  pub status : Status
  pub lines : List (List ℕ)
  pub about : Option System
  pub made : Option Made
  pub leaves : ToLeave

-- an answer that says no more than its status and one line
abbrev pub plain_answer : Status → List ℕ → Answer
plain_answer status line = record { status = status; lines = line ∷ []; about = None; made = None; leaves = LeaveNothing }

-- the answer to words of no shape
abbrev pub words_answer : Answer
words_answer = plain_answer Words (codes "words\n")

-- the answer to an input of too many bytes: `TooLarge`, and `too large`
abbrev pub large_answer : Answer
large_answer = plain_answer TooLarge (codes "too large\n")

-- no TOML has a status of its own, and all other faults of a file have one
abbrev pub fault_status : FileFault → Status
fault_status fault.NotToml = NotToml
fault_status _ = BadSet

-- the answer to an input that is no set: `NotToml` or `BadSet`, and the line of its first fault
abbrev pub fault_answer : FileFault → Answer
fault_answer first = plain_answer (fault_status first) (fault_line first)

-- the answer of a run of so many slots: its report, `Adverse` where it tells a miss and else `Done`, and its bank
abbrev pub run_answer : ℕ → System → Answer
run_answer ticks system = record { status = if reported_misses system ticks == 0 then Done else Adverse; lines = report system ticks; about = Some system; made = None; leaves = LeaveBank system ticks }

-- the status of the verdict of each test
abbrev pub fixed_status : Verdict → Status
fixed_status Yes = Done
fixed_status (No rank) = Adverse

abbrev pub edf_status : EdfVerdict → Status
edf_status edf.Yes = Done
edf_status (edf.No t need) = Adverse
edf_status edf.Wide = Wide
edf_status (edf.Long points) = Long

abbrev pub admit_status_by : Policy → System → Status
admit_status_by Rm system = fixed_status (verdict_of system)
admit_status_by Dm system = fixed_status (verdict_of system)
admit_status_by Edf system = edf_status (edf_verdict_of system)

-- the answer to an admission: the report of the test of the set's policy, whose verdict is the status
abbrev pub admit_answer : System → Answer
admit_answer system = record { status = admit_status_by system.policy system; lines = admit_report system; about = Some system; made = None; leaves = LeaveNothing }

-- the answer of so many lanes that made this history: its report, `Done`, and their table
abbrev pub lanes_answer : ℕ → ℕ → List Entry → System → Answer
lanes_answer workers jobs history system = record { status = Done; lines = lanes_report system workers jobs history; about = Some system; made = Some (made_of system workers jobs history); leaves = LeaveTable system workers history }

-- The answer of a query to a set. Only that of lanes looks at the history, which is up to the threads
abbrev pub set_answer : Query → List Entry → System → Answer
set_answer (Run ticks) history system = run_answer ticks system
set_answer Admit history system = admit_answer system
set_answer (Lanes workers jobs) history system = lanes_answer workers jobs history system

-- the answer to the number of a drawn set that is run for so many slots: its report, `Done`, and its bank
abbrev pub draw_answer : ℕ → ℕ → Answer
draw_answer ticks number = record { status = Done; lines = drawn_report (generated number) ticks; about = Some (generated number); made = None; leaves = LeaveBank (generated number) ticks }

-- the answer to what a task file gives, from the answer to its set
abbrev pub file_answer : (System → Answer) → Result System FileFault → Answer
file_answer of_set (Ok system) = of_set system
file_answer of_set (Err first) = fault_answer first

-- an input has at most so many bytes
abbrev pub most_input : ℕ
most_input = 1048576

-- the answer to an input, from the answer to its set
abbrev pub input_answer : (System → Answer) → List ℕ → Answer
input_answer of_set input = if nat_le (length input) most_input then file_answer of_set (set_of input) else large_answer

-- The answer to the words and the input, and for lanes to the history that they made.
abbrev pub answer : Option Command → List Entry → List ℕ → Answer
answer None history input = words_answer
answer (Some (Ask query)) history input = input_answer (set_answer query history) input
answer (Some (Draw number)) history input = draw_answer drawn_ticks number

-- An answer is given: its status, all of its lines and nothing else, about a valid set, of a history that lanes can make if it is theirs, and its bank or its table is left.
pub record WritesAll (answer : Answer) (old new : SinkState) (left : Left) (result : Status) : Type 0 where
  pub status : result ≡ answer.status
  pub written : Takes old new answer.lines
  pub valid : IfSome answer.about IsValid
  pub made : IfSome answer.made IsMade
  pub leaves : Leaves answer.leaves left

-- A front of its lines is written, since the sink failed, and nothing is left.
pub record WritesFront (answer : Answer) (old new : SinkState) (left : Left) : Type 0 where
  pub written : TakesFront old new answer.lines
  pub made : IfSome answer.made IsMade
  pub nothing : left ≡ Nothing

-- Nothing is written, and nothing is left.
pub record WritesNothing (old new : SinkState) (left : Left) : Type 0 where
  pub written : TakesNothing old new
  pub nothing : left ≡ Nothing

-- what a command does to the sink once its input is read, by how it ends
abbrev pub WritesAnswer : Answer → SinkState → SinkState → Left → Result Status Stop → Type 0
WritesAnswer answer old new left (Ok status) = WritesAll answer old new left status
WritesAnswer answer old new left (Err Read) = ⊥
WritesAnswer answer old new left (Err Write) = WritesFront answer old new left
WritesAnswer answer old new left (Err Memory) = WritesNothing old new left

-- the same of the answer to some history
abbrev pub WritesOneAnswer : (List Entry → Answer) → SinkState → SinkState → Left → Result Status Stop → Type 0
WritesOneAnswer answers old new left result = (history : List Entry) × WritesAnswer (answers history) old new left result

-- The source is as it was, and was not called.
pub record IsUnread (before after : SourceState) : Type 0 where
  pub left : after.left ≡ before.left
  pub calls : AreCalled before.calls after.calls (λ calls. calls ≡ [])
  pub kept : after.failures ≡ before.failures

-- The source was read by steps up to the limit of an input, and none of the calls failed.
pub record IsRead (before after : SourceState) : Type 0 where
  pub calls : AreCalled before.calls after.calls (AreSteps read_step (most_input + 1))
  pub kept : after.failures ≡ before.failures

-- What was read: all to the end, or one byte more than an input may have. A command that reads nothing does not call the source.
abbrev pub Reads : Bool → SourceState → SourceState → List ℕ → Type 0
Reads true before after input = IsInput most_input before after input
Reads false before after input = IsUnread before after

-- what may have been read where there was no memory
abbrev pub ReadsSome : Bool → SourceState → SourceState → Type 0
ReadsSome true before after = IsRead before after
ReadsSome false before after = IsUnread before after

-- The input was read, and the answer to it was given.
pub record Answered (command : Option Command) (before after : Ends) (left : Left) (result : Status) : Type 0 where
  pub input : List ℕ
  pub history : List Entry
  pub read : Reads (reads_input command) before.source after.source input
  pub gives : WritesAll (answer command history input) before.sink after.sink left result

-- The source failed. The command reads its input, which it did by steps, and nothing was written or is left.
pub record ReadFailed (command : Option Command) (before after : Ends) (left : Left) : Type 0 where
  pub reads : reads_input command ≡ true
  pub calls : AreCalled before.source.calls after.source.calls (AreSteps read_step (most_input + 1))
  pub failed : HasFailed before.source.failures after.source.failures
  pub gives : WritesNothing before.sink after.sink left

-- The sink failed. The input was read, a front of the answer to it was written, and nothing is left.
pub record WriteFailed (command : Option Command) (before after : Ends) (left : Left) : Type 0 where
  pub input : List ℕ
  pub history : List Entry
  pub read : Reads (reads_input command) before.source after.source input
  pub gives : WritesFront (answer command history input) before.sink after.sink left

-- There was no memory. The words have a shape, no call failed, and nothing was written or is left.
pub record LacksMemory (command : Option Command) (before after : Ends) (left : Left) : Type 0 where
  pub shape : IsSome command
  pub read : ReadsSome (reads_input command) before.source after.source
  pub gives : WritesNothing before.sink after.sink left

-- what holds where a call ends with a status, or was stopped
abbrev pub OutcomeOf : Option Command → Ends → Ends → Left → Result Status Stop → Type 0
OutcomeOf command before after left (Ok status) = Answered command before after left status
OutcomeOf command before after left (Err Read) = ReadFailed command before after left
OutcomeOf command before after left (Err Write) = WriteFailed command before after left
OutcomeOf command before after left (Err Memory) = LacksMemory command before after left

-- What holds at each status.
abbrev pub Outcome : Option Command → Ends → Ends → Left → Status → Type 0
Outcome command before after left result = OutcomeOf command before after left (ending_of result)

-- The latest call of the source failed exactly at `ReadFault`, and that of the sink exactly at `WriteFault`.
pub record IsLast (after : Ends) (result : Status) : Type 0 where
  pub source : (after.source.failures.down ≡ true) ↔ (result ≡ ReadFault)
  pub sink : (after.sink.failures.down ≡ true) ↔ (result ≡ WriteFault)

-- no call of the source and none of the sink failed
pub record NoneFailed (before after : Ends) : Type 0 where
  pub reads : after.source.failures.count ≡ before.source.failures.count
  pub writes : after.sink.failures.count ≡ before.sink.failures.count

-- the first line is `test yes`
abbrev pub SaysYes : System → Type 0
SaysYes system = test_line system ≡ codes "test yes\n"

-- what this line means: under fixed priorities that each task is served, and it stands exactly there; under earliest deadlines first that each span fits
pub record MeansTest (system : System) : Type 0 where
  pub served : system.policy ≢ Edf → SaysYes system ↔ EachIsServed system
  pub fits : system.policy ≡ Edf → SaysYes system → EachSpanFits system

-- the retries of the run in any interval are at most the preemptions in it, and under fixed priorities those of the tasks of the first ranks are at most the releases of tasks of lower ranks
abbrev pub Charges : System → ℕ → Type 0
Charges system ticks = (a b : ℕ) → retries any_job a b (reported_events system ticks) ≤ preemptions any_job a b (reported_events system ticks)

abbrev pub ChargesRanks : System → ℕ → Type 0
ChargesRanks system ticks = system.policy ≢ Edf → (place a b : ℕ)
    → retries (of_rank_to system place) a b (reported_events system ticks) ≤ releases (of_rank_below system place) a b (reported_events system ticks)

-- the operations of each task in the history of the run are those of its body, once for each finished job, and then those of the next job's complete items
abbrev pub MakesBodies : System → ℕ → Type 0
MakesBodies system ticks = (task : ℕ) → task < length system.tasks → FollowsBodies system task ticks

-- where the first line says yes and costs are kept, no miss is told
abbrev pub IsOnTime : System → ℕ → Status → Type 0
IsOnTime system ticks result = SaysYes system → KeepsCosts system → (reported_misses system ticks ≡ 0) × (result ≡ Done)

-- All of the input was read, the lines of the report and no others were taken, its first line tells the test, the status says whether there is a miss, the bank is that of the run, and its history is one of the objects used one operation at a time.
pub record Reported (system : System) (ticks : ℕ) (before after : Ends) (left : Left) (result : Status) : Type 0 where
  pub read : after.source.left ≡ Some []
  pub written : Takes before.sink after.sink (report system ticks)
  pub test : MeansTest system
  pub status : result ≡ (if reported_misses system ticks == 0 then Done else Adverse)
  pub bank : Leaves (LeaveBank system ticks) left
  pub valid : IsValid system
  pub legal : IsLegal (parts_of system) 0 (history (slots system ticks))
  pub bodies : MakesBodies system ticks
  pub charge : Charges system ticks
  pub ranks : ChargesRanks system ticks
  pub on_time : IsOnTime system ticks result

-- The headline: `run` on an input that is a set, given memory and no fault, writes the schedule of that set, and leaves its bank.
abbrev pub Headline : Option Command → Ends → Ends → Left → Status → Type 0
Headline command before after left result =
    (ticks : ℕ) (input : List ℕ) (system : System)
    → command ≡ Some (Ask (Run ticks)) → before.source.left ≡ Some input → length input ≤ most_input → set_of input ≡ Ok system
    → result ≢ NoMemory → NoneFailed before after
    → Reported system ticks before after left result

-- under fixed priorities the status is `Done` exactly where each task is served, and else `Adverse`
pub record AnswersServed (system : System) (result : Status) : Type 0 where
  pub holds : (result ≡ Done) ↔ EachIsServed system
  pub fails : (result ≡ Adverse) ↔ ¬ EachIsServed system

-- under earliest deadlines first `Done` says that each span fits, and `Adverse` that one does not; `Wide` and `Long` come exactly where the test answers so
pub record AnswersFits (system : System) (result : Status) : Type 0 where
  pub holds : result ≡ Done → EachSpanFits system
  pub fails : result ≡ Adverse → (t : ℕ) × (1 ≤ t) × (t < due_need system t)
  pub wide : (result ≡ Wide) ↔ (edf_verdict_of system ≡ edf.Wide)
  pub long : (result ≡ Long) ↔ ((points : ℕ) × (edf_verdict_of system ≡ edf.Long points))

-- All of the input was read, the lines of the test and no others were taken, and the status is its verdict. Nothing is left.
pub record Admitted (system : System) (before after : Ends) (left : Left) (result : Status) : Type 0 where
  pub read : after.source.left ≡ Some []
  pub written : Takes before.sink after.sink (admit_report system)
  pub status : result ≡ admit_status_by system.policy system
  pub served : system.policy ≢ Edf → AnswersServed system result
  pub fits : system.policy ≡ Edf → AnswersFits system result
  pub test : MeansTest system
  pub nothing : left ≡ Nothing

-- `admit` on an input that is a set, given memory and no fault, writes the verdict of the test of its policy.
abbrev pub Admission : Option Command → Ends → Ends → Left → Status → Type 0
Admission command before after left result =
    (input : List ℕ) (system : System)
    → command ≡ Some (Ask Admit) → before.source.left ≡ Some input → length input ≤ most_input → set_of input ≡ Ok system
    → result ≢ NoMemory → NoneFailed before after
    → Admitted system before after left result

-- The input is as it was, the lines of the report of the drawn set and no others were taken, and the bank is that of its run. Where the first line says yes, no miss is among the totals.
pub record DrawnReported (number : ℕ) (before after : Ends) (left : Left) (result : Status) : Type 0 where
  pub unread : IsUnread before.source after.source
  pub written : Takes before.sink after.sink (drawn_report (generated number) drawn_ticks)
  pub status : result ≡ Done
  pub test : MeansTest (generated number)
  pub bank : Leaves (LeaveBank (generated number) drawn_ticks) left
  pub legal : IsLegal (parts_of (generated number)) 0 (history (slots (generated number) drawn_ticks))
  pub bodies : MakesBodies (generated number) drawn_ticks
  pub charge : Charges (generated number) drawn_ticks
  pub ranks : ChargesRanks (generated number) drawn_ticks
  pub on_time : SaysYes (generated number) → reported_misses (generated number) drawn_ticks ≡ 0

-- `gen`, given memory and no fault, writes the report of the set of its number, and leaves the bank of its run.
abbrev pub Drawing : Option Command → Ends → Ends → Left → Status → Type 0
Drawing command before after left result =
    (number : ℕ) → command ≡ Some (Draw number)
    → result ≢ NoMemory → NoneFailed before after
    → DrawnReported number before after left result

-- All of the input was read. The lines of the report of this history and no others were taken, which so many lanes can make of the operations of the set for so many jobs of each task; each line tells its entry's own call. In the table that is left each lane's seat has the entries of its tasks.
pub record LanesReported (system : System) (workers jobs : ℕ) (before after : Ends) (left : Left) (result : Status) : Type 0 where
  pub history : List Entry
  pub made : IsMade (made_of system workers jobs history)
  pub calls : TellsCalls system history
  pub read : after.source.left ≡ Some []
  pub written : Takes before.sink after.sink (lanes_report system workers jobs history)
  pub status : result ≡ Done
  pub table : Leaves (LeaveTable system workers history) left
  pub valid : IsValid system

-- `lanes` on an input that is a set, given memory and no fault, writes one such history, in whatever order the threads came.
abbrev pub Sharing : Option Command → Ends → Ends → Left → Status → Type 0
Sharing command before after left result =
    (workers jobs : ℕ) (input : List ℕ) (system : System)
    → command ≡ Some (Ask (Lanes workers jobs)) → before.source.left ≡ Some input → length input ≤ most_input → set_of input ≡ Ok system
    → result ≢ NoMemory → NoneFailed before after
    → LanesReported system workers jobs before after left result
