-- What is kept of the bank, from slot to slot.
use Rattle.std.proofs.Common.{ℕ, suc, ◌≡◌, ◌≤◌, ◌<◌, ◌+◌, ◌^◌, List, ◌∷◌, length, slice_set, Option, Some, None, refl, sym, ◌∙◌, ap, arith, subst, add-one}
use Rattle.std.specs.Prelude.{option_map}
use Rattle.rx_seq.specs.declared.calls.Call.{Call}
use Rattle.rx_set.specs.declared.jobs.Job.{Job}
use Rattle.rx_set.specs.System.{System}
use Rattle.rx_port.specs.declared.views.Counts.{Counts}
use Rattle.rx_shape.specs.Layout.{Layout}
use Rattle.rx_port.specs.declared.views.View.{View}
use Rattle.rx_port.specs.Lawful.{Lawful}
use Rattle.rx_port.specs.Plain.{view_at}
use Rattle.rx_tick.specs.declared.states.State.{State}
use Rattle.rx_slots.specs.Schedule.{Slot, Progress, history, slots, slot_at}
use Rattle.rx_tick.specs.States.{job, state_at, in_hand, progress_of, AreStates, IsState, best_of}
use Rattle.rx_machine.specs.Operations.{Follows}
use Rattle.rx_tick.specs.declared.objects.Objects.{Objects}
use Rattle.rx_tick.specs.Banks.{IsBankOf, Nothing, touched, MayTouch, Touches, machine_at, IsAtWork, IsInHand, IsKept, IsTicking, KeepsMachines}
use Rattle.rx_slots.proofs.Lists.{some_same}
use Rattle.rx_tick.proofs.Written.{at_written}
use Rattle.rx_tick.proofs.Sums.{sums_more}
use Rattle.rx_slots.proofs.Attempts.{IsBegun, held}
use Rattle.rx_slots.proofs.Entries.{wins_before}
use Rattle.rx_tick.proofs.Moves.{offered_here, known_here, state_here, started_here, owner_here, job_here, slots_here, slot_idle}

-- a machine that is at work stays so while another task has a slot
stays_at_work : (system : System) (now : ℕ) (objects later : Objects) (task made first object : ℕ) (call : Call) → first < now → later.bank.layout ≡ objects.bank.layout
    → view_at later.bank.core task ≡ view_at objects.bank.core task → machine_at later task ≡ machine_at objects task
    → IsAtWork (slots system now) objects task made first object call → IsAtWork (slots system (suc now)) later task made first object call
stays_at_work system now objects later task made first object call before layout same machine h = record {
  machine = h.machine;
  step = h.step;
  there = machine ∙ h.there;
  on = h.on;
  calls = h.calls;
  going = h.going;
  under_way = h.under_way;
  position = h.position;
  tag = h.tag ∙ wins_before system object first now (omega arith) ∙ sym (wins_before system object first (suc now) (omega arith));
  follows = subst (λ (l : Layout). Follows l (view_at later.bank.core task) h.machine) (sym layout) (subst (λ (v : View). Follows objects.bank.layout v h.machine) (sym same) h.follows);
}

stays_in_hand : (system : System) (now : ℕ) (objects later : Objects) (task time : ℕ) (s : State) → IsState system (slots system now) time task s → later.bank.layout ≡ objects.bank.layout
    → view_at later.bank.core task ≡ view_at objects.bank.core task → machine_at later task ≡ machine_at objects task
    → IsInHand system (slots system now) objects task s → IsInHand system (slots system (suc now)) later task s
stays_in_hand system now objects later task time s kept layout same machine h = λ some object call item.
    let begun : IsBegun system (job task (s.finished + 1)) now (progress_of s)
    = subst (λ (p : Progress). 1 ≤ p.made → IsBegun system (job task (s.finished + 1)) now p) kept.started (held system (job task (s.finished + 1)) now) some in
    stays_at_work system now objects later task s.made s.first object call begun.before layout same machine (h some object call item)

-- the job that has the slot
module _ (system : System) (now : ℕ) (states : List State) (kept : AreStates system (slots system now) (now + 1) states) (mine : Job) (best : best_of system (length system.tasks) states ≡ Some mine)
    (objects : Objects) (words : IsKept system (slots system now) states objects) where
  pub ticking : now < 2 ^ 40 → IsTicking system now mine (state_at states mine.task) objects
  ticking early = record {
    valid = kept.valid;
    early = early;
    known = job_here system now states kept mine best early;
    owner = owner_here system now states kept mine best;
    number = (offered_here system now states kept mine best).number;
    started = started_here system now states kept mine best;
    unfinished = (state_here system now states kept mine best).unfinished;
    stands = words.of;
    sums = words.sums;
    machines = words.machines;
    hand = words.hands mine.task (known_here system now states kept mine best);
  }

  pub kept_after : (new : Objects) (t : State) → IsBankOf system (slot_at system now ∷ slots system now) new.bank → IsInHand system (slot_at system now ∷ slots system now) new mine.task t
      → KeepsMachines mine.task objects new → Touches system (slots system now) (slot_at system now) objects.bank new.bank
      → IsKept system (slots system (now + 1)) (slice_set states mine.task t) new
  kept_after new t stands hand machines touches = subst (λ (past : List Slot). IsKept system past (slice_set states mine.task t) new) (sym (slots_here system now states kept mine best)) (record {
    of = stands;
    sums = sums_more system (slots system now) (slot_at system now) touches.touch objects.bank.core.counts new.bank.core.counts touches.may touches.rise words.sums;
    machines = machines.count ∙ words.machines;
    hands = λ task. at_written (λ x s. x < length system.tasks → IsInHand system (slot_at system now ∷ slots system now) new x s) states mine.task t (offered_here system now states kept mine best).task (λ known. hand) task
        (λ apart known. stays_in_hand system now objects new task (now + 1) (state_at states task) (kept.each task known) touches.layout
        (touches.others task (λ other has e. apart (e ∙ ap (λ (j : Job). j.task) (some_same other mine (sym has ∙ owner_here system now states kept mine best)))))
        (machines.others task apart) (words.hands task known));
  })

-- an idle slot
module _ (system : System) (now : ℕ) (states : List State) (kept : AreStates system (slots system now) (now + 1) states) (best : best_of system (length system.tasks) states ≡ None)
    (objects : Objects) (words : IsKept system (slots system now) states objects) where
  idle_history : history (slots system now) ≡ history (slot_at system now ∷ slots system now)
  idle_history = sym (ap (λ (slot : Slot). history (slot ∷ slots system now)) (slot_idle system now states kept best))

  untouched : (counts : Option Counts) → counts ≡ option_map (touched Nothing) counts
  untouched None = refl
  untouched (Some counts) = refl

  pub touches_idle : Touches system (slots system now) (slot_at system now) objects.bank objects.bank
  touches_idle = record {
    touch = Nothing;
    may = subst (λ (slot : Slot). MayTouch system (slots system now) slot Nothing) (sym (slot_idle system now states kept best)) refl;
    rise = untouched objects.bank.core.counts;
    layout = refl;
    quiet = λ e. refl;
    words = refl;
    others = λ other apart. refl;
  }

  pub kept_idle : IsKept system (slots system (now + 1)) states objects
  unfolding touches_idle
  kept_idle = subst (λ (past : List Slot). IsKept system past states objects) (rw (add-one now) refl) (record {
    of = record {
      parts = words.of.parts;
      seats = words.of.seats;
      first = words.of.first;
      lawful = subst (Lawful objects.bank.layout objects.bank.core.words objects.bank.core.views) idle_history words.of.lawful;
    };
    sums = sums_more system (slots system now) (slot_at system now) Nothing objects.bank.core.counts objects.bank.core.counts touches_idle.may touches_idle.rise words.sums;
    machines = words.machines;
    hands = λ task known. stays_in_hand system now objects objects task (now + 1) (state_at states task) (kept.each task known) refl refl refl (words.hands task known);
  })

-- releases leave what is in hand
shown : (system : System) (past : List Slot) (objects : Objects) (task : ℕ) (s : State) → IsInHand system past objects task s → IsInHand system past objects task (in_hand s)
shown system past objects task s h = λ some object call item. h some object call item

hidden : (system : System) (past : List Slot) (objects : Objects) (task : ℕ) (s : State) → IsInHand system past objects task (in_hand s) → IsInHand system past objects task s
hidden system past objects task s h = λ some object call item. h some object call item

pub kept_same : (system : System) (past : List Slot) (states more : List State) (objects : Objects) → ((task : ℕ) → in_hand (state_at more task) ≡ in_hand (state_at states task)) → IsKept system past states objects → IsKept system past more objects
kept_same system past states more objects same words = record {
  of = words.of;
  sums = words.sums;
  machines = words.machines;
  hands = λ task known. hidden system past objects task (state_at more task)
      (subst (IsInHand system past objects task) (sym (same task)) (shown system past objects task (state_at states task) (words.hands task known)));
}
