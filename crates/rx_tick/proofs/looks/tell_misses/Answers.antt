use Rattle.std.proofs.Common.{◌∙◌, ap, sym, append-nil, arith, List, ◌++◌}
use Rattle.rx_ledger.specs.declared.events.Event.{Event}
use Rattle.rx_slots.specs.Schedule.{slots}
use Rattle.rx_tick.proofs.Told.{misses_more, misses_all, append_more}
use Rattle.rx_tick.proofs.looks.tell_misses.Goals as goal

pub loop-task-init : goal.loop-task-init
loop-task-init c = record { told = sym (append-nil _); few = omega arith }

pub tell_miss-requires-clause-room : goal.tell_miss-requires-clause-room
tell_miss-requires-clause-room c = omega (arith, c.loop-task.invariant.few, c.requires.states.count, c.requires.states.valid.some_tasks.1)

pub loop-task-preserved : goal.loop-task-preserved
loop-task-preserved c = record {
  told = append_more _ _ _ _ _ c.loop-task.invariant.told c.tell_miss.ensures.told
      ∙ ap (λ (es : List Event). c.args.events.now.items ++ es) (sym (misses_more c.args.set.now c.args.now c.loop-task.task (slots c.args.set.now c.args.now)));
  few = omega (arith, c.loop-task.invariant.few, c.tell_miss.ensures.few);
}

pub returns-clause-told : goal.returns-clause-told
returns-clause-told c =
    c.loop-task.invariant.told
    ∙ ap (λ (es : List Event). c.args.events.now.items ++ es) (misses_all c.args.set.now c.args.now c.loop-task.task (omega (arith, c.requires.states.count)))

pub returns-clause-few : goal.returns-clause-few
returns-clause-few c = omega (arith, c.loop-task.invariant.few, c.requires.states.count, c.requires.states.valid.some_tasks.1)
