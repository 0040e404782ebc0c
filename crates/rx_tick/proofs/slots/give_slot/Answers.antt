use Rattle.std.proofs.Common.{◌∙◌, ◌+◌, ◌∷◌, [], ◌++◌, ℕ, Bool, if◌then◌else◌, List, length, slice_set, ap, sym, refl, arith, subst, append_assoc}
use Rattle.std.proofs.lemmas.List.{length-set}
use Rattle.std.proofs.lemmas.Grind.{get_or-set_at}
use Rattle.rx_ledger.specs.declared.events.Event.{Event}
use Rattle.rx_ledger.specs.declared.events.Event.TheVariants.{Finish}
use Rattle.rx_tick.specs.declared.states.State.{State}
use Rattle.rx_slots.specs.Schedule.{slots, slot_at}
use Rattle.rx_slots.specs.Events.{decision, finish}
use Rattle.rx_tick.specs.States.{no_state, AreStates, AreBeforeDue, AreBeforeRelease, best_of}
use Rattle.rx_slots.proofs.Prefixes.{slots_count}
use Rattle.rx_tick.proofs.Told.{append_none}
use Rattle.rx_tick.proofs.Chosen.{offers_from}
use Rattle.rx_tick.proofs.Moves.{offered_here, states_after, best_after, due_after, release_after, finish_here, done, not_done}
use Rattle.rx_tick.proofs.Kept.{ticking, kept_after}
use Rattle.rx_tick.proofs.slots.give_slot.Goals as goal

pub bounds-states-task : goal.bounds-states-task
bounds-states-task c = (offered_here c.args.set.now c.args.now c.args.states.now c.requires.states c.args.job (sym c.requires.best ∙ c.requires.job)).task

pub bounds-states-task-2 : goal.bounds-states-task-2
bounds-states-task-2 c = (offered_here c.args.set.now c.args.now c.args.states.now c.requires.states c.args.job (sym c.requires.best ∙ c.requires.job)).task

pub bounds-states-task-3 : goal.bounds-states-task-3
bounds-states-task-3 c =
    let here = (offered_here c.args.set.now c.args.now c.args.states.now c.requires.states c.args.job (sym c.requires.best ∙ c.requires.job)).task in
    omega (arith, length-set c.args.states.now c.args.job.task c.advance.new.state)

pub advance-requires-clause-is : goal.advance-requires-clause-is
advance-requires-clause-is c = ticking c.args.set.now c.args.now c.args.states.now c.requires.states c.args.job (sym c.requires.best ∙ c.requires.job) c.args.objects.now c.requires.kept c.requires.now

pub returns-then-states-task-clause-states : goal.returns-then-states-task-clause-states
returns-then-states-task-clause-states c =
    subst (λ (t : State). AreStates c.args.set.now (slots c.args.set.now (c.args.now + 1)) (c.args.now + 1) (slice_set c.args.states.now c.args.job.task t)) (sym c.advance.ensures.state)
    (states_after c.args.set.now c.args.now c.args.states.now c.requires.states c.args.job (sym c.requires.best ∙ c.requires.job))

pub returns-then-states-task-clause-kept : goal.returns-then-states-task-clause-kept
returns-then-states-task-clause-kept c =
    kept_after c.args.set.now c.args.now c.args.states.now c.requires.states c.args.job (sym c.requires.best ∙ c.requires.job) c.args.objects.now c.requires.kept c.advance.new.objects c.advance.new.state
    c.advance.ensures.bank c.advance.ensures.hand c.advance.ensures.machines c.advance.ensures.touches

pub returns-then-states-task-clause-best : goal.returns-then-states-task-clause-best
returns-then-states-task-clause-best c =
    c.requires.best
    ∙ sym (best_after c.args.set.now c.args.now c.args.states.now c.requires.states c.args.job (sym c.requires.best ∙ c.requires.job)
    (ap (λ (t : State). t.finished) (sym c.advance.ensures.state) ∙ (ap (λ (t : State). t.finished) (sym (get_or-set_at c.args.states.now c.args.job.task c.args.job.task c.advance.new.state no_state refl (offered_here c.args.set.now c.args.now c.args.states.now c.requires.states c.args.job (sym c.requires.best ∙ c.requires.job)).task)) ∙ c.if-states-task.true)))
    ∙ ap (λ (t : State). best_of c.args.set.now (length c.args.set.now.tasks) (slice_set c.args.states.now c.args.job.task t)) (sym c.advance.ensures.state)

pub returns-then-states-task-clause-dues : goal.returns-then-states-task-clause-dues
returns-then-states-task-clause-dues c = λ watched.
    subst (λ (t : State). AreBeforeDue c.args.set.now (c.args.now + 1) c.args.turn.now.next_due (slice_set c.args.states.now c.args.job.task t)) (sym c.advance.ensures.state)
    (due_after c.args.set.now c.args.now c.args.states.now c.requires.states c.args.job (sym c.requires.best ∙ c.requires.job) c.args.turn.now.next_due watched)

pub returns-then-states-task-clause-releases : goal.returns-then-states-task-clause-releases
returns-then-states-task-clause-releases c = λ watched.
    subst (λ (t : State). AreBeforeRelease c.args.set.now c.args.turn.now.next_release (slice_set c.args.states.now c.args.job.task t)) (sym c.advance.ensures.state)
    (release_after c.args.set.now c.args.now c.args.states.now c.requires.states c.args.job (sym c.requires.best ∙ c.requires.job) c.args.turn.now.next_release watched)

pub returns-then-states-task-clause-told : goal.returns-then-states-task-clause-told
returns-then-states-task-clause-told c =
    let past = slots c.args.set.now c.args.now in
    let d = decision c.args.set.now past (slot_at c.args.set.now c.args.now) in
    let none = finish_here c.args.set.now c.args.now c.args.states.now c.requires.states c.args.job (sym c.requires.best ∙ c.requires.job) ∙ ap (λ (b : Bool). if b then Finish (length past) c.args.job ∷ [] else [])
    (not_done c.args.set.now c.args.now c.args.states.now c.requires.states c.args.job (sym c.requires.best ∙ c.requires.job) (ap (λ (t : State). t.finished) (sym c.advance.ensures.state) ∙ (ap (λ (t : State). t.finished) (sym (get_or-set_at c.args.states.now c.args.job.task c.args.job.task c.advance.new.state no_state refl (offered_here c.args.set.now c.args.now c.args.states.now c.requires.states c.args.job (sym c.requires.best ∙ c.requires.job)).task)) ∙ c.if-states-task.true))) in
    c.advance.ensures.told ∙ ap (λ (es : List Event). c.args.events.now.items ++ es) (append_none d (finish c.args.set.now past (slot_at c.args.set.now c.args.now)) none)

pub returns-clause-states : goal.returns-clause-states
returns-clause-states c =
    subst (λ (t : State). AreStates c.args.set.now (slots c.args.set.now (c.args.now + 1)) (c.args.now + 1) (slice_set c.args.states.now c.args.job.task t)) (sym c.advance.ensures.state)
    (states_after c.args.set.now c.args.now c.args.states.now c.requires.states c.args.job (sym c.requires.best ∙ c.requires.job))

pub pick-turn-requires : goal.pick-turn-requires
pick-turn-requires c = offers_from c.args.set.now (slots c.args.set.now (c.args.now + 1)) c.args.now (slice_set c.args.states.now c.args.job.task c.advance.new.state)
    (subst (λ (t : State). AreStates c.args.set.now (slots c.args.set.now (c.args.now + 1)) (c.args.now + 1) (slice_set c.args.states.now c.args.job.task t)) (sym c.advance.ensures.state)
    (states_after c.args.set.now c.args.now c.args.states.now c.requires.states c.args.job (sym c.requires.best ∙ c.requires.job)))
    c.requires.now

pub returns-clause-kept : goal.returns-clause-kept
returns-clause-kept c =
    kept_after c.args.set.now c.args.now c.args.states.now c.requires.states c.args.job (sym c.requires.best ∙ c.requires.job) c.args.objects.now c.requires.kept c.advance.new.objects c.advance.new.state
    c.advance.ensures.bank c.advance.ensures.hand c.advance.ensures.machines c.advance.ensures.touches

pub returns-clause-dues : goal.returns-clause-dues
returns-clause-dues c = λ watched.
    subst (λ (t : State). AreBeforeDue c.args.set.now (c.args.now + 1) c.args.turn.now.next_due (slice_set c.args.states.now c.args.job.task t)) (sym c.advance.ensures.state)
    (due_after c.args.set.now c.args.now c.args.states.now c.requires.states c.args.job (sym c.requires.best ∙ c.requires.job) c.args.turn.now.next_due watched)

pub returns-clause-releases : goal.returns-clause-releases
returns-clause-releases c = λ watched.
    subst (λ (t : State). AreBeforeRelease c.args.set.now c.args.turn.now.next_release (slice_set c.args.states.now c.args.job.task t)) (sym c.advance.ensures.state)
    (release_after c.args.set.now c.args.now c.args.states.now c.requires.states c.args.job (sym c.requires.best ∙ c.requires.job) c.args.turn.now.next_release watched)

pub returns-clause-told : goal.returns-clause-told
returns-clause-told c =
    let past = slots c.args.set.now c.args.now in
    let d = decision c.args.set.now past (slot_at c.args.set.now c.args.now) in
    let finished = finish_here c.args.set.now c.args.now c.args.states.now c.requires.states c.args.job (sym c.requires.best ∙ c.requires.job) ∙ ap (λ (b : Bool). if b then Finish (length past) c.args.job ∷ [] else [])
    (done c.args.set.now c.args.now c.args.states.now c.requires.states c.args.job (sym c.requires.best ∙ c.requires.job) (λ e. c.if-states-task.false (ap (λ (t : State). t.finished) (get_or-set_at c.args.states.now c.args.job.task c.args.job.task c.advance.new.state no_state refl (offered_here c.args.set.now c.args.now c.args.states.now c.requires.states c.args.job (sym c.requires.best ∙ c.requires.job)).task) ∙ ap (λ (t : State). t.finished) c.advance.ensures.state ∙ e))) in
    c.push.ensures.items
    ∙ ap (λ (es : List Event). es ++ (Finish c.args.now c.args.job ∷ [])) c.advance.ensures.told
    ∙ append_assoc c.args.events.now.items d (Finish c.args.now c.args.job ∷ [])
    ∙ ap (λ (n : ℕ). c.args.events.now.items ++ (d ++ (Finish n c.args.job ∷ []))) (sym (slots_count c.args.set.now c.args.now))
    ∙ ap (λ (es : List Event). c.args.events.now.items ++ (d ++ es)) (sym finished)
