-- How a call ends: from what is told of its parts.
use Rattle.std.proofs.Common.{ℕ, ◌≡◌, ◌≤◌, ◌<◌, ◌==◌, if◌then◌else◌, Bool, true, false, inl, inr, List, [], length, Option, Some, None, Result, Ok, Err, is_ok, true≢false, refl, sym, ap, ◌∙◌, subst}
use Rattle.std.specs.Result.{IsErrAnd}
use Rattle.std.proofs.lemmas.Bool.{cases_lt, lt-leb, le-leb}
use Rattle.rx_io.specs.declared.status.Status.{Status}
use Rattle.rx_io.specs.declared.status.Status.TheVariants.{Done, Adverse, Words, ReadFault, WriteFault, NoMemory}
use Rattle.rx_io.specs.States.{Failures, SourceState, SinkState, MayBeCalled}
use Rattle.rx_io.specs.Causes.{Takes}
use Rattle.rx_io.proofs.Calls.{calls_none}
use Rattle.rx_set.specs.declared.policies.Policy.{Policy}
use Rattle.rx_set.specs.declared.policies.Policy.TheVariants.{Rm, Dm, Edf}
use Rattle.rx_set.specs.System.{System}
use Rattle.rx_fixed.specs.declared.verdicts.Verdict.{Verdict}
use Rattle.rx_fixed.specs.declared.verdicts.Verdict.TheVariants.{Yes, No}
use Rattle.rx_fixed.specs.Verdicts.{verdict_of}
use Rattle.rx_edf.specs.declared.verdicts.EdfVerdict.{EdfVerdict}
use Rattle.rx_edf.specs.declared.verdicts.EdfVerdict.TheVariants as edf
use Rattle.rx_edf.specs.Verdicts.{verdict_of as edf_verdict_of}
use Rattle.rx_file.specs.declared.faults.FileFault.{FileFault}
use Rattle.rx_file.specs.declared.faults.FileFault.TheVariants as fault
use Rattle.rx_file.specs.SetOf.{set_of}
use Rattle.rx_seq.specs.declared.entries.Entry.{Entry}
use Rattle.rx_top.specs.declared.left.Left.{Left}
use Rattle.rx_top.specs.declared.left.Left.TheVariants.{Nothing}
use Rattle.rx_top.specs.declared.stops.Stop.{Stop}
use Rattle.rx_top.specs.declared.stops.Stop.TheVariants.{Read, Write, Memory}
use Rattle.rx_top.specs.declared.words.Command.{Command}
use Rattle.rx_top.specs.declared.words.Command.TheVariants.{Ask, Draw}
use Rattle.rx_top.specs.declared.words.Query.{Query}
use Rattle.rx_top.specs.declared.words.Query.TheVariants.{Run, Admit, Lanes}
use Rattle.rx_top.specs.Words.{reads_input}
use Rattle.rx_top.specs.Drawn.{drawn_ticks}
use Rattle.rx_trace.specs.Report.{reported_misses}
use Rattle.rx_top.specs.Stops.{ending_of, status_of}
use Rattle.rx_top.specs.Outcome.{Answer, Answered, OutcomeOf, Ends, IsLast, Reads, ReadsSome, IsUnread, Outcome, WritesAnswer, WritesFront, admit_status_by, answer, draw_answer, edf_status, ends, fault_status, file_answer, fixed_status, input_answer, large_answer, most_input, set_answer, words_answer}

-- all inputs of too many bytes have one answer
pub too_large : (of_set : System → Answer) (input : List ℕ) → most_input < length input → input_answer of_set input ≡ large_answer
too_large of_set input h = rw (lt-leb (length input) most_input h) refl

-- and any other has the answer of its file
pub fits : (of_set : System → Answer) (input : List ℕ) → length input ≤ most_input → input_answer of_set input ≡ file_answer of_set (set_of input)
fits of_set input h = rw (le-leb (length input) most_input h) refl

-- a source that is not called stays as it was
pub unread : (a : SourceState) → IsUnread a a
unread a = record { left = refl; calls = calls_none a.calls _ refl; kept = refl }

-- the sink stopped the writing of an answer
pub writes_stopped : (answer : Answer) (a b : SinkState) (left : Left) (r : Result Status Stop) → IsErrAnd r (λ stop. stop ≡ Write) → WritesFront answer a b left → WritesAnswer answer a b left r
writes_stopped answer a b left (Ok status) stopped front = absurd stopped
writes_stopped answer a b left (Err stop) stopped front = subst (λ (s : Stop). WritesAnswer answer a b left (Err s)) (sym stopped) front

-- words of no shape are answered without a call of the source
pub words_answered : (a : SourceState) (b c : SinkState) (left : Left) (command : Option Command) → ((known : Command) → command ≡ Some known → ⊥) → Takes b c words_answer.lines → left ≡ Nothing
    → Answered command (ends a b) (ends a c) left Words
words_answered a b c left (Some known) none taken nothing = absurd (none known refl)
words_answered a b c left None none taken nothing = record {
  input = [];
  history = [];
  read = unread a;
  gives = record { status = refl; written = taken; valid = tt; made = tt; leaves = nothing };
}

-- a drawn set is answered without a call of the source
pub drawn_ending : (number : ℕ) (a : SourceState) (b c : SinkState) (left : Left) (r : Result Status Stop) → WritesAnswer (draw_answer drawn_ticks number) b c left r → OutcomeOf (Some (Draw number)) (ends a b) (ends a c) left r
drawn_ending number a b c left (Ok status) gives = record { input = []; history = []; read = unread a; gives = gives }
drawn_ending number a b c left (Err Read) gives = absurd gives
drawn_ending number a b c left (Err Write) gives = record { input = []; history = []; read = unread a; gives = gives }
drawn_ending number a b c left (Err Memory) gives = record { shape = refl; read = unread a; gives = gives }

-- ---- the status of an answer is none of a stop

abbrev IsEnd : Status → Type 0
IsEnd status = ending_of status ≡ Ok status

fault_ends : (first : FileFault) → IsEnd (fault_status first)
fault_ends fault.NotToml = refl
fault_ends (fault.Field section row label) = refl
fault_ends (fault.Name section row) = refl
fault_ends (fault.Repeat section row) = refl
fault_ends (fault.Range section row label) = refl
fault_ends (fault.Item task item) = refl
fault_ends (fault.Unknown task item) = refl
fault_ends (fault.Misfit task item) = refl
fault_ends (fault.TooMany section count) = refl
fault_ends fault.NoMemory = refl

file_ends : (of_set : System → Answer) → ((system : System) → IsEnd (of_set system).status) → (r : Result System FileFault) → IsEnd (file_answer of_set r).status
file_ends of_set each (Ok system) = each system
file_ends of_set each (Err first) = fault_ends first

either_ends : (missed : Bool) → IsEnd (if missed then Done else Adverse)
either_ends true = refl
either_ends false = refl

fixed_ends : (verdict : Verdict) → IsEnd (fixed_status verdict)
fixed_ends Yes = refl
fixed_ends (No rank) = refl

edf_ends : (verdict : EdfVerdict) → IsEnd (edf_status verdict)
edf_ends edf.Yes = refl
edf_ends (edf.No t need) = refl
edf_ends edf.Wide = refl
edf_ends (edf.Long points) = refl

admit_ends : (policy : Policy) (system : System) → IsEnd (admit_status_by policy system)
admit_ends Rm system = fixed_ends (verdict_of system)
admit_ends Dm system = fixed_ends (verdict_of system)
admit_ends Edf system = edf_ends (edf_verdict_of system)

set_ends : (query : Query) (history : List Entry) (system : System) → IsEnd (set_answer query history system).status
set_ends (Run ticks) history system = either_ends (reported_misses system ticks == 0)
set_ends Admit history system = admit_ends system.policy system
set_ends (Lanes workers jobs) history system = refl

input_ends : (of_set : System → Answer) → ((system : System) → IsEnd (of_set system).status) → (input : List ℕ) → IsEnd (input_answer of_set input).status
input_ends of_set each input = elim (cases_lt most_input (length input)) [
  | inl many ↦ subst (λ (a : Answer). IsEnd a.status) (sym (too_large of_set input many)) refl
  | inr few ↦ subst (λ (a : Answer). IsEnd a.status) (sym (fits of_set input few)) (file_ends of_set each (set_of input))
]

answer_ends : (command : Option Command) (history : List Entry) (input : List ℕ) → IsEnd (answer command history input).status
answer_ends None history input = refl
answer_ends (Some (Ask query)) history input = input_ends (set_answer query history) (set_ends query history) input
answer_ends (Some (Draw number)) history input = refl

-- whatever was read, no call failed
read_kept : (reads : Bool) (a b : SourceState) (input : List ℕ) → Reads reads a b input → b.failures ≡ a.failures
read_kept true a b input read = read.kept
read_kept false a b input read = read.kept

some_kept : (reads : Bool) (a b : SourceState) → ReadsSome reads a b → b.failures ≡ a.failures
some_kept true a b read = read.kept
some_kept false a b read = read.kept

module _ (command : Option Command) where
  pub answered_ends : (before after : Ends) (left : Left) (status : Status) → Answered command before after left status → ending_of status ≡ Ok status
  answered_ends before after left status told = subst IsEnd (sym told.gives.status) (answer_ends command told.history told.input)

  pub answered_outcome : (before after : Ends) (left : Left) (status : Status) → Answered command before after left status → Outcome command before after left status
  answered_outcome before after left status told = subst (OutcomeOf command before after left) (sym (answered_ends before after left status told)) told

  -- where an answer was given no call failed
  pub answered_kept : (before after : Ends) (left : Left) (status : Status) → Answered command before after left status → (after.source.failures ≡ before.source.failures) × (after.sink.failures ≡ before.sink.failures)
  answered_kept before after left status told = (read_kept (reads_input command) before.source after.source told.input told.read, told.gives.written.kept)

not_write : ReadFault ≡ WriteFault → ⊥
not_write e = cc

not_read : WriteFault ≡ ReadFault → ⊥
not_read e = cc

memory_not_read : NoMemory ≡ ReadFault → ⊥
memory_not_read e = cc

memory_not_write : NoMemory ≡ WriteFault → ⊥
memory_not_write e = cc

-- ---- which call was the last

not_down : (before after : Failures) → MayBeCalled before → after ≡ before → after.down ≡ true → ⊥
not_down before after up kept down = true≢false (sym down ∙ ap (λ (f : Failures). f.down) kept ∙ up.up)

module _ (before after : Ends) (source : MayBeCalled before.source.failures) (sink : MayBeCalled before.sink.failures) where
  -- an answer is that of no status of a stop
  no_stop : (status : Status) (stop : Stop) → IsEnd status → ending_of status ≡ Err stop → ⊥
  no_stop status stop ends stopped = true≢false (ap (λ (r : Result Status Stop). is_ok r) (sym ends ∙ stopped))

  pub last_answered : (status : Status) → IsEnd status → after.source.failures ≡ before.source.failures → after.sink.failures ≡ before.sink.failures → IsLast after status
  last_answered status end reads writes = record {
    source = (
      λ down. absurd (not_down before.source.failures after.source.failures source reads down),
      λ is. absurd (no_stop status Read end (ap ending_of is)),
    );
    sink = (
      λ down. absurd (not_down before.sink.failures after.sink.failures sink writes down),
      λ is. absurd (no_stop status Write end (ap ending_of is)),
    );
  }

  pub last_stopped : (command : Option Command) (left : Left) (stop : Stop) → OutcomeOf command before after left (Err stop) → IsLast after (status_of stop)
  last_stopped command left Read told = record {
    source = (λ down. refl, λ is. told.failed.down);
    sink = (λ down. absurd (not_down before.sink.failures after.sink.failures sink told.gives.written.kept down), λ is. absurd (not_write is));
  }
  last_stopped command left Write told = record {
    source = (λ down. absurd (not_down before.source.failures after.source.failures source (read_kept (reads_input command) before.source after.source told.input told.read) down), λ is. absurd (not_read is));
    sink = (λ down. refl, λ is. told.gives.written.failed.down);
  }
  last_stopped command left Memory told = record {
    source = (λ down. absurd (not_down before.source.failures after.source.failures source (some_kept (reads_input command) before.source after.source told.read) down), λ is. absurd (memory_not_read is));
    sink = (λ down. absurd (not_down before.sink.failures after.sink.failures sink told.gives.written.kept down), λ is. absurd (memory_not_write is));
  }
