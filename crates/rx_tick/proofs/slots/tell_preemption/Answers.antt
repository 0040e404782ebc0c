use Rattle.std.proofs.Common.{◌∙◌, ◌+◌, ◌++◌, List, ap, sym}
use Rattle.rx_ledger.specs.declared.events.Event.{Event}
use Rattle.rx_slots.specs.Schedule.{slots}
use Rattle.rx_slots.proofs.Prefixes.{slots_count}
use Rattle.rx_tick.proofs.Told.{append_none}
use Rattle.rx_tick.proofs.Moves.{preempted_is, preempted_not}
use Rattle.rx_tick.proofs.slots.tell_preemption.Goals as goal

pub returns-clause-told : goal.returns-clause-told
returns-clause-told c =
    c.push.ensures.items
    ∙ ap (λ (es : List Event). c.args.events.now.items ++ es)
    (sym (preempted_is c.args.set.now (slots c.args.set.now c.args.now) c.args.now c.args.turn.now.last c.args.turn.now.best c.in-Some.job c.in-Some-best.by
    (slots_count c.args.set.now c.args.now) c.in-Some.is c.in-Some-best.is (sym (c.preempts.ensures c.args.set.now (slots c.args.set.now c.args.now) (c.args.now + 1) c.requires.states) ∙ c.if-not-preempts.false)))

pub returns-then-not-preempts-clause-told : goal.returns-then-not-preempts-clause-told
returns-then-not-preempts-clause-told c =
    append_none _ _ (preempted_not c.args.set.now (slots c.args.set.now c.args.now) c.args.turn.now.last c.args.turn.now.best c.in-Some.job c.in-Some-best.by
    c.in-Some.is c.in-Some-best.is (sym (c.preempts.ensures c.args.set.now (slots c.args.set.now c.args.now) (c.args.now + 1) c.requires.states) ∙ c.if-not-preempts.true))
