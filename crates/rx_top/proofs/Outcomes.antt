-- From the answer that a call gives to what each command promises.
use Rattle.std.proofs.Common.{ℕ, ◌≡◌, ◌≢◌, ◌≤◌, ◌<◌, ◌+◌, ◌==◌, ◌↔◌, codes, get_or, if◌then◌else◌, true, false, List, [], length, Option, Some, None, IfSome, Result, is_ok, refl, sym, ap, ◌∙◌, subst, true≢false, slice_get, arith}
use Rattle.std.proofs.Math.ListN.{drop_of_length-le}
use Rattle.std.proofs.lemmas.Option.{slice_get-map}
use Rattle.std.specs.Option.{option_map}
use Rattle.rx_io.specs.Causes.{Takes}
use Rattle.rx_set.specs.declared.policies.Policy.{Policy}
use Rattle.rx_set.specs.declared.policies.Policy.TheVariants.{Rm, Dm, Edf}
use Rattle.rx_seq.specs.Legal.{IsLegal}
use Rattle.rx_set.specs.System.{System, parts_of}
use Rattle.rx_set.specs.Valid.{IsValid, KeepsCosts}
use Rattle.rx_set.specs.Admission.{EachIsServed, EachSpanFits, due_need, unserved}
use Rattle.rx_set.specs.Generator.{generated}
use Rattle.rx_ledger.specs.Intervals.{any_job, retries, preemptions, releases}
use Rattle.rx_slots.specs.Laws.{FollowsBodies}
use Rattle.rx_slots.specs.Schedule.{history, slots}
use Rattle.rx_slots.specs.Events.{events, misses}
use Rattle.rx_slots.specs.Charges.{of_rank_to, of_rank_below}
use Rattle.rx_top.proofs.NoMisses.{none_reported, preemptions_reported, releases_reported, retries_reported}
use Rattle.rx_trace.specs.Report.{reported_misses}
use Rattle.rx_fixed.specs.declared.verdicts.Verdict.{Verdict}
use Rattle.rx_fixed.specs.declared.verdicts.Verdict.TheVariants.{Yes, No}
use Rattle.rx_fixed.specs.Verdicts.{verdict_by, verdict_of}
use Rattle.rx_edf.specs.declared.verdicts.EdfVerdict.{EdfVerdict}
use Rattle.rx_edf.specs.declared.verdicts.EdfVerdict.TheVariants as edf
use Rattle.rx_edf.specs.Verdicts.{verdict_of as edf_verdict_of}
use Rattle.rx_report.specs.VerdictLines.{fixed_line}
use Rattle.rx_report.specs.SpanLines.{edf_line}
use Rattle.rx_top.specs.Drawn.{drawn_ticks}
use Rattle.rx_top.specs.declared.left.Left.{Left}
use Rattle.rx_top.specs.declared.left.Left.TheVariants.{Nothing, Bank, Closed}
use Rattle.rx_io.specs.declared.status.Status.{Status}
use Rattle.rx_io.specs.declared.status.Status.TheVariants.{Done, Adverse, Wide, Long}
use Rattle.rx_seq.specs.declared.entries.Entry.{Entry}
use Rattle.rx_top.specs.declared.words.Command.{Command}
use Rattle.rx_top.specs.Words.{reads_input, uses_threads}
use Rattle.rx_set.specs.declared.items.Item.TheVariants.{Op}
use Rattle.rx_set.specs.Operations.{Asked, asked_of, script_of}
use Rattle.rx_lanes.specs.Histories.{IsMade, made_of}
use Rattle.rx_lanes.specs.Runs.{entries_by}
use Rattle.rx_report.specs.Lines.{item_of}
use Rattle.rx_report.specs.LaneLines.{entry_item, entry_job}
use Rattle.rx_top.specs.LaneReport.{TellsCalls}
use Rattle.rx_top.specs.Leaves.{LeaveBank, Leaves}
use Rattle.rx_trace.specs.Tests.{test_line_by}
use Rattle.rx_top.specs.Outcome.{Ends, Answer, answer, admit_answer, admit_status_by, draw_answer, edf_status, fixed_status, file_answer, lanes_answer, run_answer, most_input, Answered, Headline, Admission, Sharing, Drawing, AnswersServed, AnswersFits, MeansTest, SaysYes, Charges, ChargesRanks}
use Rattle.rx_top.specs.declared.stops.Stop.{Stop}
use Rattle.rx_top.specs.Stops.{is_answered}
use Rattle.rx_top.proofs.Endings.{answered_ends, fits}
use Rattle.rx_top.proofs.Determinations.{all_of, determined, some_of, unread}

no_yes : (place : ℕ) → No place ≡ Yes → ⊥
no_yes place e = cc

some_not : (place : ℕ) → Some place ≡ None → ⊥
some_not place e = cc

not_done : Adverse ≡ Done → ⊥
not_done e = cc

wide_not_done : Wide ≡ Done → ⊥
wide_not_done e = cc

wide_not_adverse : Wide ≡ Adverse → ⊥
wide_not_adverse e = cc

long_not_done : Long ≡ Done → ⊥
long_not_done e = cc

long_not_adverse : Long ≡ Adverse → ⊥
long_not_adverse e = cc

long_not_wide : Long ≡ Wide → ⊥
long_not_wide e = cc

rm_not : Rm ≡ Edf → ⊥
rm_not e = cc

dm_not : Dm ≡ Edf → ⊥
dm_not e = cc

-- a status with which an answer was given is that of one
answered : (command : Option Command) (before after : Ends) (left : Left) (result : Status) → Answered command before after left result → is_answered result ≡ true
answered command before after left result told = ap (λ (r : Result Status Stop). is_ok r) (answered_ends command before after left result told)

-- the laws that the clauses of a run rest on
pub record Laws : Type 0 where
  pub served : (system : System) → (unserved system ≡ None) ↔ EachIsServed system
  pub fits : (system : System) → IsValid system → edf_verdict_of system ≡ edf.Yes → EachSpanFits system
  pub fails : (system : System) (t n : ℕ) → IsValid system → edf_verdict_of system ≡ edf.No t n → (1 ≤ t) × (n ≡ due_need system t) × (t < n)
  pub drawn : (number : ℕ) → KeepsCosts (generated number)
  pub bodies : (system : System) (task n : ℕ) → IsValid system → task < length system.tasks → FollowsBodies system task n
  pub bounds : (system : System) (n a b : ℕ) → IsValid system → retries any_job a b (events system n) ≤ preemptions any_job a b (events system n)
  pub ranks : (system : System) (n place a b : ℕ) → IsValid system → system.policy ≢ Edf
      → retries (of_rank_to system place) a b (events system n) ≤ releases (of_rank_below system place) a b (events system n)
  pub ranked : (system : System) (n : ℕ) → IsValid system → KeepsCosts system → system.policy ≢ Edf → EachIsServed system → misses system (slots system n) ≡ []
  pub earliest : (system : System) (n : ℕ) → IsValid system → KeepsCosts system → system.policy ≡ Edf → EachSpanFits system → misses system (slots system n) ≡ []

-- the line `test yes` is that of a verdict that says yes
yes_line : (verdict : Verdict) → fixed_line verdict ≡ codes "test yes\n" → verdict ≡ Yes
yes_line Yes e = refl
yes_line (No rank) e = absurd (true≢false (ap (λ (line : List ℕ). get_or line 5 0 == 121) (sym e)))

edf_yes_line : (verdict : EdfVerdict) → edf_line verdict ≡ codes "test yes\n" → verdict ≡ edf.Yes
edf_yes_line edf.Yes e = refl
edf_yes_line (edf.No t need) e = absurd (true≢false (ap (λ (line : List ℕ). get_or line 5 0 == 121) (sym e)))
edf_yes_line edf.Wide e = absurd (true≢false (ap (λ (line : List ℕ). get_or line 5 0 == 121) (sym e)))
edf_yes_line (edf.Long points) e = absurd (true≢false (ap (λ (line : List ℕ). get_or line 5 0 == 121) (sym e)))

verdict_yes : (o : Option ℕ) → verdict_by o ≡ Yes → o ≡ None
verdict_yes None e = refl
verdict_yes (Some place) e = absurd (no_yes place e)

-- the line, the report and the status of each test
fixed_test : (policy : Policy) (system : System) → policy ≢ Edf → test_line_by policy system ≡ fixed_line (verdict_of system)
fixed_test Rm system fixed = refl
fixed_test Dm system fixed = refl
fixed_test Edf system fixed = absurd (fixed refl)

edf_test : (policy : Policy) (system : System) → policy ≡ Edf → test_line_by policy system ≡ edf_line (edf_verdict_of system)
edf_test policy system e = ap (λ (p : Policy). test_line_by p system) e

fixed_status_is : (policy : Policy) (system : System) → policy ≢ Edf → admit_status_by policy system ≡ fixed_status (verdict_of system)
fixed_status_is Rm system fixed = refl
fixed_status_is Dm system fixed = refl
fixed_status_is Edf system fixed = absurd (fixed refl)

-- what the first line means
means : (laws : Laws) (system : System) → IsValid system → MeansTest system
means laws system valid = record {
  served = λ fixed. (
    λ line. (laws.served system).0 (verdict_yes (unserved system) (yes_line (verdict_of system) (sym (fixed_test system.policy system fixed) ∙ line))),
    λ each. fixed_test system.policy system fixed ∙ ap (λ (o : Option ℕ). fixed_line (verdict_by o)) ((laws.served system).1 each),
  );
  fits = λ earliest line. laws.fits system valid (edf_yes_line (edf_verdict_of system) (sym (edf_test system.policy system earliest) ∙ line));
}

-- a bank that is left stands for the history of its run, which is one of the objects used one operation at a time
legal_left : (system : System) (ticks : ℕ) (left : Left) → Leaves (LeaveBank system ticks) left → IsLegal (parts_of system) 0 (history (slots system ticks))
legal_left system ticks Nothing is = absurd is
legal_left system ticks (Closed closed) is = absurd is
legal_left system ticks (Bank bank) is =
    let past = history (slots system ticks) in
    subst (λ first. IsLegal (parts_of system) first past) is.history.first (subst (λ parts. IsLegal parts bank.layout.first past) is.history.parts is.history.lawful.legal)

-- the laws of the schedule, as those of what a run tells
charges : (laws : Laws) (system : System) (n : ℕ) → IsValid system → Charges system n
charges laws system n valid a b = omega (arith, laws.bounds system n a b valid, retries_reported any_job system n a b, preemptions_reported any_job system n a b)

charges_ranks : (laws : Laws) (system : System) (n : ℕ) → IsValid system → ChargesRanks system n
charges_ranks laws system n valid fixed place a b =
    omega (arith, laws.ranks system n place a b valid fixed, retries_reported (of_rank_to system place) system n a b, releases_reported (of_rank_below system place) system n a b)

never_missed : (laws : Laws) (system : System) → IsValid system → SaysYes system → KeepsCosts system → (m : ℕ) → misses system (slots system m) ≡ []
never_missed laws system valid line kept m = by_policy system.policy refl
  where
    meaning : MeansTest system
    meaning = means laws system valid

    by_policy : (policy : Policy) → system.policy ≡ policy → misses system (slots system m) ≡ []
    by_policy Rm e = let fixed : system.policy ≢ Edf = λ f. rm_not (sym e ∙ f) in laws.ranked system m valid kept fixed ((meaning.served fixed).0 line)
    by_policy Dm e = let fixed : system.policy ≢ Edf = λ f. dm_not (sym e ∙ f) in laws.ranked system m valid kept fixed ((meaning.served fixed).0 line)
    by_policy Edf e = laws.earliest system m valid kept e (meaning.fits e line)

none_missed : (laws : Laws) (system : System) (n : ℕ) → IsValid system → SaysYes system → KeepsCosts system → reported_misses system n ≡ 0
none_missed laws system n valid line kept = none_reported system n (never_missed laws system valid line kept)

-- the status of a run without a miss
done_without : (result : Status) (n : ℕ) → result ≡ (if n == 0 then Done else Adverse) → n ≡ 0 → result ≡ Done
done_without result n is none = is ∙ ap (λ (k : ℕ). if k == 0 then Done else Adverse) none

pub headline : Laws → (command : Option Command) (before after : Ends) (left : Left) (result : Status) → Answered command before after left result → Headline command before after left result
headline laws command before after left result told ticks input system asks known few set memory kept =
    let found = determined command before after left result told input known (ap reads_input asks) (answered command before after left result told) in
    let given = all_of (uses_threads command) _ (ap uses_threads asks) found.1 [] in
    let same : answer command [] input ≡ run_answer ticks system =
    ap (λ c. answer c [] input) asks ∙ fits (run_answer ticks) input few ∙ ap (file_answer (run_answer ticks)) set in
    let valid : IsValid system = subst (λ about. IfSome about IsValid) (ap (λ (a : Answer). a.about) same) given.valid in
    let bank : Leaves (LeaveBank system ticks) left = subst (λ leaves. Leaves leaves left) (ap (λ (a : Answer). a.leaves) same) given.leaves in
    let status : result ≡ (if reported_misses system ticks == 0 then Done else Adverse) = given.status ∙ ap (λ (a : Answer). a.status) same in record {
      read = found.0 ∙ ap (λ (r : List ℕ). Some r) (drop_of_length-le input {i = most_input + 1} (omega (arith, few)));
      written = subst (Takes before.sink after.sink) (ap (λ (a : Answer). a.lines) same) given.written;
      test = means laws system valid;
      status = status;
      bank = bank;
      valid = valid;
      legal = legal_left system ticks left bank;
      bodies = λ task known. laws.bodies system task ticks valid known;
      charge = charges laws system ticks valid;
      ranks = charges_ranks laws system ticks valid;
      on_time = λ line kept. let none : reported_misses system ticks ≡ 0 = none_missed laws system ticks valid line kept in (none, done_without result (reported_misses system ticks) status none);
    }

-- what the status of an admission says under fixed priorities
done_is : (o : Option ℕ) → fixed_status (verdict_by o) ≡ Done → o ≡ None
done_is None e = refl
done_is (Some place) e = absurd (not_done e)

adverse_is : (o : Option ℕ) → fixed_status (verdict_by o) ≡ Adverse → o ≢ None
adverse_is None e f = not_done (sym e)
adverse_is (Some place) e f = some_not place f

is_adverse : (o : Option ℕ) → o ≢ None → fixed_status (verdict_by o) ≡ Adverse
is_adverse None some = absurd (some refl)
is_adverse (Some place) some = refl

answers_served : (laws : Laws) (system : System) (result : Status) → result ≡ fixed_status (verdict_of system) → AnswersServed system result
answers_served laws system result status = record {
  holds = (
    λ done. (laws.served system).0 (done_is (unserved system) (sym status ∙ done)),
    λ each. status ∙ ap (λ (o : Option ℕ). fixed_status (verdict_by o)) ((laws.served system).1 each),
  );
  fails = (
    λ adverse each. adverse_is (unserved system) (sym status ∙ adverse) ((laws.served system).1 each),
    λ none. status ∙ is_adverse (unserved system) (λ all. none ((laws.served system).0 all)),
  );
}

-- and under earliest deadlines first
edf_done : (verdict : EdfVerdict) → edf_status verdict ≡ Done → verdict ≡ edf.Yes
edf_done edf.Yes e = refl
edf_done (edf.No t need) e = absurd (not_done e)
edf_done edf.Wide e = absurd (wide_not_done e)
edf_done (edf.Long points) e = absurd (long_not_done e)

edf_adverse : (verdict : EdfVerdict) → edf_status verdict ≡ Adverse → (t : ℕ) × (need : ℕ) × (verdict ≡ edf.No t need)
edf_adverse edf.Yes e = absurd (not_done (sym e))
edf_adverse (edf.No t need) e = (t, need, refl)
edf_adverse edf.Wide e = absurd (wide_not_adverse e)
edf_adverse (edf.Long points) e = absurd (long_not_adverse e)

edf_wide : (verdict : EdfVerdict) → edf_status verdict ≡ Wide → verdict ≡ edf.Wide
edf_wide edf.Yes e = absurd (wide_not_done (sym e))
edf_wide (edf.No t need) e = absurd (wide_not_adverse (sym e))
edf_wide edf.Wide e = refl
edf_wide (edf.Long points) e = absurd (long_not_wide e)

edf_long : (verdict : EdfVerdict) → edf_status verdict ≡ Long → (points : ℕ) × (verdict ≡ edf.Long points)
edf_long edf.Yes e = absurd (long_not_done (sym e))
edf_long (edf.No t need) e = absurd (long_not_adverse (sym e))
edf_long edf.Wide e = absurd (long_not_wide (sym e))
edf_long (edf.Long points) e = (points, refl)

failing : (laws : Laws) (system : System) → IsValid system → ((t : ℕ) × (need : ℕ) × (edf_verdict_of system ≡ edf.No t need)) → (t : ℕ) × (1 ≤ t) × (t < due_need system t)
failing laws system valid found =
    let is = laws.fails system found.0 found.1 valid found.2 in
    (found.0, is.0, omega (arith, is.1, is.2))

answers_fits : (laws : Laws) (system : System) (result : Status) → IsValid system → result ≡ edf_status (edf_verdict_of system) → AnswersFits system result
answers_fits laws system result valid status = record {
  holds = λ done. laws.fits system valid (edf_done (edf_verdict_of system) (sym status ∙ done));
  fails = λ adverse. failing laws system valid (edf_adverse (edf_verdict_of system) (sym status ∙ adverse));
  wide = (λ wide. edf_wide (edf_verdict_of system) (sym status ∙ wide), λ is. status ∙ ap edf_status is);
  long = (λ long. edf_long (edf_verdict_of system) (sym status ∙ long), λ is. status ∙ ap edf_status is.1);
}

pub admission : Laws → (command : Option Command) (before after : Ends) (left : Left) (result : Status) → Answered command before after left result → Admission command before after left result
admission laws command before after left result told input system asks known few set memory kept =
    let found = determined command before after left result told input known (ap reads_input asks) (answered command before after left result told) in
    let given = all_of (uses_threads command) _ (ap uses_threads asks) found.1 [] in
    let same : answer command [] input ≡ admit_answer system =
    ap (λ c. answer c [] input) asks ∙ fits admit_answer input few ∙ ap (file_answer admit_answer) set in
    let valid : IsValid system = subst (λ about. IfSome about IsValid) (ap (λ (a : Answer). a.about) same) given.valid in
    let status : result ≡ admit_status_by system.policy system = given.status ∙ ap (λ (a : Answer). a.status) same in record {
      read = found.0 ∙ ap (λ (r : List ℕ). Some r) (drop_of_length-le input {i = most_input + 1} (omega (arith, few)));
      written = subst (Takes before.sink after.sink) (ap (λ (a : Answer). a.lines) same) given.written;
      status = status;
      served = λ fixed. answers_served laws system result (status ∙ fixed_status_is system.policy system fixed);
      fits = λ earliest. answers_fits laws system result valid (status ∙ ap (λ (p : Policy). admit_status_by p system) earliest);
      test = means laws system valid;
      nothing = subst (λ leaves. Leaves leaves left) (ap (λ (a : Answer). a.leaves) same) given.leaves;
    }

pub drawing : Laws → (command : Option Command) (before after : Ends) (left : Left) (result : Status) → Answered command before after left result → Drawing command before after left result
drawing laws command before after left result told number asks memory kept =
    let none : reads_input command ≡ false = ap reads_input asks in
    let found = unread command before after left result told [] [] none (answered command before after left result told) in
    let given = found.1 in
    let same : answer command [] [] ≡ draw_answer drawn_ticks number = ap (λ c. answer c [] []) asks in
    let bank : Leaves (LeaveBank (generated number) drawn_ticks) left = subst (λ leaves. Leaves leaves left) (ap (λ (a : Answer). a.leaves) same) given.leaves in
    let valid : IsValid (generated number) = subst (λ about. IfSome about IsValid) (ap (λ (a : Answer). a.about) same) given.valid in record {
      unread = found.0;
      written = subst (Takes before.sink after.sink) (ap (λ (a : Answer). a.lines) same) given.written;
      status = given.status ∙ ap (λ (a : Answer). a.status) same;
      test = means laws (generated number) valid;
      bank = bank;
      legal = legal_left (generated number) drawn_ticks left bank;
      bodies = λ task known. laws.bodies (generated number) task drawn_ticks valid known;
      charge = charges laws (generated number) drawn_ticks valid;
      ranks = charges_ranks laws (generated number) drawn_ticks valid;
      on_time = λ line. none_missed laws (generated number) drawn_ticks valid line (laws.drawn number);
    }

-- what is known of the lines of entries
abbrev CallsLaw : Type 0
CallsLaw = (system : System) (jobs place : ℕ) (entry : Entry) → slice_get (script_of system jobs entry.caller) place ≡ Some (asked_of entry) → entry.index ≡ place + 1
    → item_of system (entry_job system entry) (entry_item system entry) ≡ Some (Op entry.object entry.call)

tells_calls : CallsLaw → (system : System) (workers jobs : ℕ) (history : List Entry) → IsMade (made_of system workers jobs history) → TellsCalls system history
tells_calls law system workers jobs history made task place entry known found =
    let list = made.scripts task known in
    let mine = list.own place entry found in
    law system jobs place entry
    (ap (λ (k : ℕ). slice_get (script_of system jobs k) place) mine.0 ∙ ap (λ (asks : List Asked). slice_get asks place) (sym list.calls) ∙ slice_get-map asked_of (entries_by task history) place ∙ ap (λ (o : Option Entry). option_map asked_of o) found)
    mine.1

pub sharing : CallsLaw → (command : Option Command) (before after : Ends) (left : Left) (result : Status) → Answered command before after left result → Sharing command before after left result
sharing law command before after left result told workers jobs input system asks known few set memory kept =
    let known = determined command before after left result told input known (ap reads_input asks) (answered command before after left result told) in
    let found = some_of (uses_threads command) _ (ap uses_threads asks) known.1 in
    let given = found.1 in
    let same : answer command found.0 input ≡ lanes_answer workers jobs found.0 system =
    ap (λ c. answer c found.0 input) asks ∙ fits (lanes_answer workers jobs found.0) input few ∙ ap (file_answer (lanes_answer workers jobs found.0)) set in
    let made : IsMade (made_of system workers jobs found.0) = subst (λ made. IfSome made IsMade) (ap (λ (a : Answer). a.made) same) given.made in record {
      history = found.0;
      made = made;
      calls = tells_calls law system workers jobs found.0 made;
      read = known.0 ∙ ap (λ (r : List ℕ). Some r) (drop_of_length-le input {i = most_input + 1} (omega (arith, few)));
      written = subst (Takes before.sink after.sink) (ap (λ (a : Answer). a.lines) same) given.written;
      status = given.status ∙ ap (λ (a : Answer). a.status) same;
      table = subst (λ leaves. Leaves leaves left) (ap (λ (a : Answer). a.leaves) same) given.leaves;
      valid = subst (λ about. IfSome about IsValid) (ap (λ (a : Answer). a.about) same) given.valid;
    }
