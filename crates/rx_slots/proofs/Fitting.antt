-- The calls of a schedule fit their objects, and a win that changes nothing spoils nobody.
use Rattle.std.proofs.Common.{ℕ, zero, suc, ◌≡◌, ◌≢◌, ◌<◌, ◌+◌, ◌==◌, ◌&&◌, not, Bool, true, false, if◌then◌else◌, List, [], ◌∷◌, length, Option, Some, None, refl, sym, ◌∙◌, ap, arith, subst}
use Rattle.std.specs.Prelude.{slice_get}
use Rattle.std.specs.List.{All}
use Rattle.std.proofs.lemmas.List.{length-map}
use Rattle.std.proofs.lemmas.List.Elements.{All-nil, All-cons, All-head, All-tail}
use Rattle.rx_seq.specs.Table.{IsPart, effect, fits_part}
use Rattle.rx_seq.specs.Quiet.{is_quiet}
use Rattle.rx_seq.specs.States.{IsFitting, IsState}
use Rattle.rx_seq.specs.History.{part_at, replay, tag_of, entry_after}
use Rattle.rx_seq.specs.declared.calls.Call.{Call}
use Rattle.rx_seq.specs.declared.calls.Call.TheVariants.{Set}
use Rattle.rx_seq.specs.declared.entries.Entry.{Entry}
use Rattle.rx_seq.specs.declared.kinds.Part.{Part}
use Rattle.rx_set.specs.declared.items.Item.TheVariants.{Op}
use Rattle.rx_set.specs.declared.jobs.Job.{Job}
use Rattle.rx_set.specs.System.{System, task_of, parts_of, part_of_row, item_at}
use Rattle.rx_set.specs.Valid.{IsValid, IsItem}
use Rattle.rx_set.proofs.Readings.{part_valid}
use Rattle.rx_slots.specs.Schedule.{Slot, Decide, noted, history, wins_on, slots, slot_at}
use Rattle.rx_slots.specs.Laws.{who}
use Rattle.rx_slots.proofs.Choices.{idle_none, who_pending}
use Rattle.rx_slots.proofs.Steps.{IsOwn, Goes, Works, Loses, Wins, own_at}
use Rattle.rx_slots.proofs.Shares.{stated_op}
use Rattle.rx_slots.proofs.Entries.{wins_tags, same_number, reply_is}
use Rattle.rx_slots.proofs.Wins.{no_win}

-- an operation of a job is a call that fits an object that is there
pub op_fits : (system : System) (job : Job) (place object : ℕ) (call : Call) → IsValid system → job.task < length system.tasks → item_at system job place ≡ Some (Op object call) → IsItem system (Op object call)
op_fits system job place object call valid known e =
    (valid.tasks job.task known).items place (Op object call) (stated_op system.demands job (place + 1) object call (slice_get (task_of system job).items place) e)

entry_fits : (system : System) (past : List Entry) (caller object : ℕ) (call : Call) → IsItem system (Op object call) → IsFitting (parts_of system) (entry_after (parts_of system) past caller object call)
entry_fits system past caller object call item = record { exists = omega (arith, length-map system.objects part_of_row, item.0); fits = item.1 }

-- so the calls of all entries fit
fits_slot : (system : System) (n : ℕ) (slot : Slot) (job : Job) → IsValid system → who system n ≡ Some job → IsOwn system (slots system n) job slot → All (IsFitting (parts_of system)) (history (slots system n))
    → All (IsFitting (parts_of system)) (noted slot (history (slots system n)))
fits_slot system n slot job valid mine (Goes is some next) before = subst (λ (s : Slot). All (IsFitting (parts_of system)) (noted s (history (slots system n)))) (sym is) before
fits_slot system n slot job valid mine (Works is all next) before = subst (λ (s : Slot). All (IsFitting (parts_of system)) (noted s (history (slots system n)))) (sym is) before
fits_slot system n slot job valid mine (Loses object call is item all spoiled next) before = subst (λ (s : Slot). All (IsFitting (parts_of system)) (noted s (history (slots system n)))) (sym is) before
fits_slot system n slot job valid mine (Wins object call is item all calm next) before =
    subst (λ (s : Slot). All (IsFitting (parts_of system)) (noted s (history (slots system n)))) (sym is)
    (All-cons (IsFitting (parts_of system)) (entry_after (parts_of system) (history (slots system n)) job.task object call) (history (slots system n))
    (entry_fits system (history (slots system n)) job.task object call (op_fits system job _ object call valid (who_pending system n job mine).known.task item)) before)

pub all_fit : (system : System) (n : ℕ) → IsValid system → All (IsFitting (parts_of system)) (history (slots system n))
all_fit system zero valid = All-nil (IsFitting (parts_of system))
all_fit system (suc n) valid = by_owner (who system n) refl (all_fit system n valid)
  where
    by_owner : (o : Option Job) → who system n ≡ o → All (IsFitting (parts_of system)) (history (slots system n)) → All (IsFitting (parts_of system)) (history (slots system (suc n)))
    by_owner None e before = subst (λ (s : Slot). All (IsFitting (parts_of system)) (noted s (history (slots system n)))) (sym (idle_none (slot_at system n) e)) before
    by_owner (Some job) e before = fits_slot system n (slot_at system n) job valid e (own_at system n job e) before

-- what the laws of the objects say: a replay is a state of its part, and what leaves it is quiet, but for a set
abbrev pub KeepsStates : Type 0
KeepsStates = (parts : List Part) (object : ℕ) (entries : List Entry) → IsPart (part_at parts object) → All (IsFitting parts) entries → IsState (part_at parts object) (replay parts object entries)

abbrev pub AreQuiet : Type 0
AreQuiet = (part : Part) (state : List ℕ) (call : Call) → IsState part state → fits_part part call ≡ true → (effect part state call).state ≡ state → ((v : ℕ) → call ≢ Set v) → is_quiet call (effect part state call).reply ≡ true

-- an entry that leaves the state of its object, and is no set
module _ (kept : KeepsStates) (only : AreQuiet) (system : System) (n object other : ℕ) (job : Job) (entry : Entry) (valid : IsValid system) (is : slot_at system n ≡ Decide job object (Some entry))
    (stays : replay (parts_of system) entry.object (history (slots system (suc n))) ≡ replay (parts_of system) entry.object (history (slots system n))) (no_set : (v : ℕ) → entry.call ≢ Set v) where
  history_is : history (slots system (suc n)) ≡ entry ∷ history (slots system n)
  history_is = ap (λ (s : Slot). noted s (history (slots system n))) is

  fits : All (IsFitting (parts_of system)) (entry ∷ history (slots system n))
  fits = subst (All (IsFitting (parts_of system))) history_is (all_fit system (suc n) valid)

  fits_here : IsFitting (parts_of system) entry
  fits_here = All-head (IsFitting (parts_of system)) entry (history (slots system n)) fits

  state_here : IsState (part_at (parts_of system) entry.object) (replay (parts_of system) entry.object (history (slots system n)))
  state_here = kept (parts_of system) entry.object (history (slots system n))
      (part_valid system entry.object valid (let there = fits_here.exists in omega (arith, length-map system.objects part_of_row, there)))
      (All-tail (IsFitting (parts_of system)) entry (history (slots system n)) fits)

  state_stays : (effect (part_at (parts_of system) entry.object) (replay (parts_of system) entry.object (history (slots system n))) entry.call).state
      ≡ replay (parts_of system) entry.object (history (slots system n))
  state_stays =
      sym (ap (λ (b : Bool). if b then (effect (part_at (parts_of system) entry.object) (replay (parts_of system) entry.object (history (slots system n))) entry.call).state else replay (parts_of system) entry.object (history (slots system n))) (same_number entry.object))
      ∙ sym (ap (replay (parts_of system) entry.object) history_is)
      ∙ stays

  quiet : is_quiet entry.call entry.reply ≡ true
  quiet = ap (is_quiet entry.call) (reply_is system (suc n) [] (history (slots system n)) entry history_is)
      ∙ only (part_at (parts_of system) entry.object) (replay (parts_of system) entry.object (history (slots system n))) entry.call state_here fits_here.fits state_stays no_set

  pub spoils_nobody : wins_on other (slot_at system n) ≡ false
  spoils_nobody = ap (wins_on other) is ∙ ap (λ (q : Bool). (other == entry.object) && not q) quiet ∙ neither (other == entry.object)
    where
      neither : (b : Bool) → (b && false) ≡ false
      neither true = refl
      neither false = refl

  pub tags_stay : tag_of other (history (slots system (suc n))) ≡ tag_of other (history (slots system n))
  tags_stay = sym (wins_tags other (slots system (suc n))) ∙ no_win system other n spoils_nobody ∙ wins_tags other (slots system n)
