-- A step in which the plan is made, and then something else.
use Rattle.std.proofs.Common.{◌≡◌, ℕ, inl, inr, ◌⊎◌, ⊎_elim, ◌∙◌, sym, ap, subst}
use Rattle.rx_seq.specs.declared.replies.Reply.{Reply}
use Rattle.rx_shape.specs.Layout.{Layout}
use Rattle.rx_port.specs.declared.views.Core.{Core}
use Rattle.rx_port.specs.declared.views.View.{View}
use Rattle.rx_machine.specs.declared.steps.Step.{Step}
use Rattle.rx_machine.specs.declared.steps.Step.TheVariants.{Going, Idle, Won, Lost, Spent}
use Rattle.rx_machine.specs.declared.machine_states.MachineState.{MachineState}
use Rattle.rx_machine.specs.Operations.{Outlook, Operation, Progress}
use Rattle.rx_machine.specs.Steps.{Loads, Spends, IsAmid, Reads, Writes, Decides, Wins, Loses, Tells}
use Rattle.rx_machine.specs.Turns.{Turns}
use Rattle.rx_machine.specs.MachineStates.{operation_of, HasSettled, HasStepped}

-- the machine with another outlook
abbrev with_outlook : Operation → Outlook → Operation
with_outlook machine outlook = record machine { outlook = outlook }

module _ (l : Layout) (stood stands : Core → Type 0) (v u : View) (old new : Operation) (o : Outlook) where
  loads_from : Loads l stood stands v u (with_outlook old o) new → Loads l stood stands v u old new
  loads_from t = record { first = t.first; root = t.root; event = t.event; more = t.more; next = t.next }

  spends_from : (tag : ℕ) → Spends l stood stands v u (with_outlook old o) new tag → Spends l stood stands v u old new tag
  spends_from tag t = record { first = t.first; root = t.root; event = t.event; last = t.last; tag_is = t.tag_is; next = t.next }

  amid_from : (p : Progress) → IsAmid l stood stands v u (with_outlook old o) new p → IsAmid l stood stands v u old new p
  amid_from p t = record { is = t.is; is_open = t.is_open; early = t.early; busy = t.busy }

  reads_from : Reads l stood stands v u (with_outlook old o) new → Reads l stood stands v u old new
  reads_from t = record { progress = t.progress; amid = amid_from t.progress t.amid; blank = t.blank; place = t.place; word = t.word; range = t.range; event = t.event; next = t.next }

  writes_from : Writes l stood stands v u (with_outlook old o) new → Writes l stood stands v u old new
  writes_from t = record {
    progress = t.progress;
    amid = amid_from t.progress t.amid;
    own = t.own;
    value = t.value;
    below = t.below;
    blank = t.blank;
    event = t.event;
    plan = t.plan;
    next = t.next;
  }

  decides_from : (found : ℕ) → Decides l stood stands v u (with_outlook old o) new found → Decides l stood stands v u old new found
  decides_from found t = record { progress = t.progress; is = t.is; last = t.last; root = t.root; pairs = t.pairs; decision = t.decision; event = t.event }

  wins_from : (reply : Reply) (tag : ℕ) → Wins l stood stands v u (with_outlook old o) new reply tag → Wins l stood stands v u old new reply tag
  wins_from reply tag t = record {
    found = t.found;
    decides = let d = t.decides in record { progress = d.progress; is = d.is; last = d.last; root = d.root; pairs = d.pairs; decision = d.decision; event = d.event };
    same = t.same;
    fresh = t.fresh;
    reply_is = t.reply_is;
    tag_is = t.tag_is;
    root_is = t.root_is;
    next = t.next;
  }

  loses_from : (expected found : ℕ) → Loses l stood stands v u (with_outlook old o) new expected found → Loses l stood stands v u old new expected found
  loses_from expected found t = record {
    decides = let d = t.decides in record { progress = d.progress; is = d.is; last = d.last; root = d.root; pairs = d.pairs; decision = d.decision; event = d.event };
    expected_is = t.expected_is;
    apart = t.apart;
    higher = t.higher;
    tag_is = t.tag_is;
    unchanged = t.unchanged;
    next = t.next;
  }

module _ {P S : Type 0} (l : Layout) (stands : P → S → Core → Type 0) (view : P → S → View) (port : P) (seat : S) (port' : P) (seat' : S) (old new : Operation) (o : Outlook) where
  tells_from : (step : Step) → Tells l stands view port seat port' seat' (with_outlook old o) new step → Tells l stands view port seat port' seat' old new step
  tells_from Going t =
      ⊎_elim (λ (x : Loads l (stands port seat) (stands port' seat') (view port seat) (view port' seat') (with_outlook old o) new). inl (loads_from l (stands port seat) (stands port' seat') (view port seat) (view port' seat') old new o x))
      (λ (y : Reads l (stands port seat) (stands port' seat') (view port seat) (view port' seat') (with_outlook old o) new ⊎ Writes l (stands port seat) (stands port' seat') (view port seat) (view port' seat') (with_outlook old o) new).
      inr (⊎_elim (λ (x : Reads l (stands port seat) (stands port' seat') (view port seat) (view port' seat') (with_outlook old o) new). inl (reads_from l (stands port seat) (stands port' seat') (view port seat) (view port' seat') old new o x))
      (λ (x : Writes l (stands port seat) (stands port' seat') (view port seat) (view port' seat') (with_outlook old o) new). inr (writes_from l (stands port seat) (stands port' seat') (view port seat) (view port' seat') old new o x)) y)) t
  tells_from Idle t = record { progress = t.progress; is = t.is; is_open = t.is_open; early = t.early; port_is = t.port_is; seat_is = t.seat_is; outlook = t.outlook; next = t.next }
  tells_from (Won reply tag) t = wins_from l (stands port seat) (stands port' seat') (view port seat) (view port' seat') old new o reply tag t
  tells_from (Lost expected found) t = loses_from l (stands port seat) (stands port' seat') (view port seat) (view port' seat') old new o expected found t
  tells_from (Spent tag) t = spends_from l (stands port seat) (stands port' seat') (view port seat) (view port' seat') old new o tag t

turns_from : (old new : Operation) (o : Outlook) (step : Step) → Turns (with_outlook old o) step new → Turns old step new
turns_from old new o Going t = record { next = t.next; outlook = t.outlook; new_is = t.new_is; one = t.one; early = t.early; busy = t.busy; still = t.still }
turns_from old new o Idle t = record { progress = t.progress; is = t.is; next = t.next; outlook = t.outlook; new_is = t.new_is; one = t.one; early = t.early; idle = t.idle }
turns_from old new o (Won reply tag) t = record { progress = t.progress; is = t.is; last = t.last; new_is = t.new_is }
turns_from old new o (Lost expected found) t = record { progress = t.progress; is = t.is; last = t.last; new_is = t.new_is }
turns_from old new o (Spent tag) t = record { first = t.first; new_is = t.new_is }

module _ {P S : Type 0} (l : Layout) (stands : P → S → Core → Type 0) (view : P → S → View) (port : P) (seat : S) (port' : P) (seat' : S) (old middle new : MachineState) (step : Step) where
  pub joined : HasSettled l (view port seat) old middle → HasStepped l stands view port seat port' seat' middle new step → HasStepped l stands view port seat port' seat' old new step
  joined s t = record {
    tells = tells_from l stands view port seat port' seat' (operation_of old) (operation_of new) (operation_of middle).outlook step (subst (λ x. Tells l stands view port seat port' seat' x (operation_of new) step) is t.tells);
    turns = turns_from (operation_of old) (operation_of new) (operation_of middle).outlook step (subst (λ x. Turns x step (operation_of new)) is t.turns);
    follows = t.follows;
    work_is = t.work_is;
  }
    where
      is : operation_of middle ≡ with_outlook (operation_of old) (operation_of middle).outlook
      is = s.same ∙ ap (λ o. with_outlook (operation_of old) o) (sym (ap (λ x. x.outlook) s.same))
