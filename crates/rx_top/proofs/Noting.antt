-- Noting the events of a run.
use Rattle.std.proofs.Common.{ℕ, ◌≡◌, ◌≤◌, ◌<◌, ◌+◌, ◌-◌, List, [], ◌∷◌, ◌++◌, length, take, get_or, fold, Option, Some, is_some, Result, Ok, Err, OnOk, sym, ap, ◌∙◌, subst, append_assoc, arith}
use Rattle.std.proofs.lemmas.Grind.{take_at_read}
use Rattle.std.specs.Prelude.{slice_get}
use Rattle.std.specs.List.{All}
use Rattle.std.proofs.lemmas.List.Elements.{All-append, All-get_or, All-push, All-same, All-weaker}
use Rattle.std.proofs.lemmas.Option.{slice_get_within, get_or_from_slice_get}
use Rattle.rx_set.specs.declared.jobs.Job.{Job}
use Rattle.rx_set.specs.System.{System}
use Rattle.rx_ledger.specs.declared.events.Event.{Event}
use Rattle.rx_ledger.specs.declared.totals.Totals.{Totals}
use Rattle.rx_ledger.specs.Counts.{counted, with_slot}
use Rattle.rx_ledger.specs.Ledgers.{time_of, MayFollow}
use Rattle.rx_port.specs.Plain.{Whole}
use Rattle.rx_slots.specs.Schedule.{slots, slot_at, job_in}
use Rattle.rx_slots.specs.Events.{events, events_of, misses}
use Rattle.rx_tick.specs.Banks.{IsBankOf}
use Rattle.rx_tick.specs.Executive.{Moment, moment}
use Rattle.rx_top.specs.Noted.{AreNoted, IsRun}
use Rattle.rx_trace.proofs.Counting.{counts_next, counts_end}
use Rattle.rx_trace.proofs.Lines.{events_next}

-- an event is told at a time, or at this time at the latest
abbrev IsAt : ℕ → Event → Type 0
IsAt n event = time_of event ≡ n

abbrev IsBy : ℕ → Event → Type 0
IsBy n event = time_of event ≤ n

at_place : (P : Event → Type 0) (xs : List Event) (place : ℕ) (x : Event) → All P xs → slice_get xs place ≡ Some x → P x
at_place P xs place x all e = subst P (get_or_from_slice_get xs place x x e) (all place x (slice_get_within xs place x e))

-- an event of this time may follow those that are told by then
pub may_follow : (ledger told : List Event) (now place : ℕ) (d : Event) → All (λ event. time_of event ≤ now) ledger → All (λ event. time_of event ≡ now) told → place < length told → MayFollow ledger (get_or told place d)
may_follow ledger told now place d earlier times inside last e =
    let before : time_of last ≤ now = at_place (IsBy now) ledger (length ledger - 1) last earlier e in
    let here : time_of (get_or told place d) ≡ now = All-get_or (IsAt now) told place d inside times in
    omega (arith, before, here)

-- and then all are told by then
pub noted_more : (ledger told : List Event) (now place : ℕ) (d : Event) → All (λ event. time_of event ≤ now) ledger → All (λ event. time_of event ≡ now) told → place < length told
    → All (λ event. time_of event ≤ now) (ledger ++ get_or told place d ∷ [])
noted_more ledger told now place d earlier times inside =
    let here : time_of (get_or told place d) ≡ now = All-get_or (IsAt now) told place d inside times in
    All-push (IsBy now) ledger (get_or told place d) earlier (omega (arith, here))

-- what is noted after one event more of those of a time
pub noted_taken : (before ledger after told : List Event) (place : ℕ) (d : Event) → ledger ≡ before ++ take place told → place < length told → after ≡ ledger ++ get_or told place d ∷ [] → after ≡ before ++ take (place + 1) told
noted_taken before ledger after told place d so_far inside more =
    more ∙ ap (λ xs. xs ++ get_or told place d ∷ []) so_far ∙ append_assoc before (take place told) (get_or told place d ∷ [])
    ∙ ap (λ xs. before ++ xs) (sym (take_at_read told place d inside).1)

pub earlier_taken : (ledger after told : List Event) (now place : ℕ) (d : Event) → All (λ event. time_of event ≤ now) ledger → All (λ event. time_of event ≡ now) told → place < length told
    → after ≡ ledger ++ get_or told place d ∷ [] → All (λ event. time_of event ≤ now) after
earlier_taken ledger after told now place d earlier times inside more = All-same (IsBy now) after (ledger ++ get_or told place d ∷ []) more (noted_more ledger told now place d earlier times inside)

-- the same events, at the same time
pub times_same : (xs ys : List Event) (m n : ℕ) → xs ≡ ys → m ≡ n → All (λ event. time_of event ≡ n) ys → All (λ event. time_of event ≡ m) xs
times_same xs ys m n same time all = All-same (IsAt m) xs ys same (All-weaker (IsAt n) (IsAt m) (λ event h. h ∙ sym time) ys all)

-- both hold where it went well
pub on_ok_both : {T E P Q R : Type 0} (r : Result T E) → (P → Q → R) → OnOk r P → OnOk r Q → OnOk r R
on_ok_both (Ok x) f p q = f p q
on_ok_both (Err e) f p q = tt

-- one more slot is noted
pub noted_next : (system : System) (n : ℕ) (ledger after told : List Event) (t u v : Totals) (job : Option Job)
    → AreNoted system n ledger t → job ≡ job_in (slot_at system n) → told ≡ events_of system (slots system n) (slot_at system n) → length told ≤ 131
    → All (λ event. time_of event ≡ n) (events_of system (slots system n) (slot_at system n))
    → after ≡ ledger ++ told → u ≡ with_slot t (is_some job) → v ≡ fold counted u told → AreNoted system (n + 1) after v
noted_next system n ledger after told t u v job before slot same few times more one all = record {
  events_are = more ∙ ap (λ xs. xs ++ told) before.events_are ∙ ap (λ xs. events system n ++ xs) same ∙ sym (events_next system n);
  earlier =
      All-same (IsBy (n + 1)) after (ledger ++ events_of system (slots system n) (slot_at system n)) (more ∙ ap (λ xs. ledger ++ xs) same)
      (All-append (IsBy (n + 1)) ledger (events_of system (slots system n) (slot_at system n))
      (All-weaker (IsBy n) (IsBy (n + 1)) (λ event h. omega (arith, h)) ledger before.earlier)
      (All-weaker (IsAt n) (IsBy (n + 1)) (λ event h. omega (arith, h)) (events_of system (slots system n) (slot_at system n)) times));
  counts = counts_next system n t u v job told before.counts slot same few one all;
}

-- a run of all slots, and its last misses
pub run_noted : (system : System) (n : ℕ) (ledger after late : List Event) (t u : Totals) (end : Moment) (bank : Whole) → end ≡ moment system n end.bank
    → AreNoted system n ledger t → late ≡ misses end.system (slots end.system end.time) → after ≡ ledger ++ late → u ≡ fold counted t late → IsBankOf end.system (slots end.system end.time) bank → IsRun system n after u bank
run_noted system n ledger after late t u end bank is before same more all stands =
    let by : end.system ≡ system = ap (λ (m : Moment). m.system) is in
    let at_end : end.time ≡ n = ap (λ (m : Moment). m.time) is in
    let missed : late ≡ misses system (slots system n) = rw (by, at_end) at same in record {
      events_are = more ∙ ap (λ xs. xs ++ late) before.events_are ∙ ap (λ xs. events system n ++ xs) missed;
      totals_are = counts_end system n t u late before.counts missed all;
      stands = rw (by, at_end) at stands;
    }
