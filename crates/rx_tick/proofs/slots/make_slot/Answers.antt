use Rattle.std.proofs.Common.{◌∙◌, ◌++◌, ap, List}
use Rattle.rx_ledger.specs.declared.events.Event.{Event}
use Rattle.rx_tick.specs.declared.turns.Turn.{Turn}
use Rattle.rx_slots.specs.Events.{releases}
use Rattle.rx_tick.proofs.Moves.{job_of_slot, last_of_next, all_told}
use Rattle.rx_slots.specs.Schedule.{slots}
use Rattle.rx_tick.proofs.Kept.{kept_same}
use Rattle.rx_tick.proofs.slots.make_slot.Goals as goal

pub returns-clause-slot : goal.returns-clause-slot
returns-clause-slot c = c.take_slot.ensures.turn.last ∙ last_of_next c.args.set.now c.args.now

pub returns-clause-told : goal.returns-clause-told
returns-clause-told c =
    all_told c.args.set.now c.args.now _ _ _ _ _ _ c.requires.empty
    (c.look_at_releases.ensures.last ∙ ap (λ (t : Turn). t.last) c.look_at_dues.ensures.others ∙ c.requires.turn.last)
    (c.look_at_releases.ensures.best ∙ job_of_slot c.args.set.now c.args.now c.look_at_releases.new.states c.look_at_releases.ensures.states)
    (c.look_at_releases.ensures.told ∙ ap (λ (es : List Event). es ++ releases c.args.set.now c.args.now) c.look_at_dues.ensures.told)
    c.tell_preemption.ensures.told c.take_slot.ensures.told

pub take_slot-requires-clause-kept : goal.take_slot-requires-clause-kept
take_slot-requires-clause-kept c = kept_same c.args.set.now (slots c.args.set.now c.args.now) c.args.states.now c.look_at_releases.new.states c.args.objects.now c.look_at_releases.ensures.same c.requires.kept
