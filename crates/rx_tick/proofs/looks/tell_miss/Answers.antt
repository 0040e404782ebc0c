use Rattle.std.proofs.Common.{◌∙◌, ap, map, sym, arith, List, ◌++◌}
use Rattle.rx_set.specs.declared.jobs.Job.{Job}
use Rattle.rx_ledger.specs.declared.events.Event.TheVariants.{Miss}
use Rattle.rx_slots.specs.Schedule.{slots}
use Rattle.rx_slots.proofs.Prefixes.{slots_count}
use Rattle.rx_tick.proofs.Told.{missed_some, missed_none, append_none}
use Rattle.rx_tick.proofs.looks.tell_miss.Goals as goal

pub overflow_cast-job : goal.overflow_cast-job
overflow_cast-job c = omega (arith, c.requires.valid.some_tasks.1)

pub returns-then-not-is_late-clause-told : goal.returns-then-not-is_late-clause-told
returns-then-not-is_late-clause-told c =
    let past = slots c.args.set.now c.args.now in
    append_none _ _ (ap (map (Miss c.args.now)) (missed_none c.args.set.now past c.args.now c.args.task c.args.state c.requires.state c.requires.valid c.requires.known
    (slots_count c.args.set.now c.args.now) (sym c.is_late.ensures ∙ c.if-not-is_late.true)))

pub returns-clause-told : goal.returns-clause-told
returns-clause-told c =
    let past = slots c.args.set.now c.args.now in
    c.push.ensures.items ∙ ap (λ (js : List Job). c.args.events.now.items ++ map (Miss c.args.now) js)
    (sym (missed_some c.args.set.now past c.args.now c.args.task c.args.state c.requires.state c.requires.valid c.requires.known
    (slots_count c.args.set.now c.args.now) (sym c.is_late.ensures ∙ c.if-not-is_late.false)))
