use Rattle.std.proofs.Common.{◌∙◌, ◌+◌, ap, map, sym, subst, List, ◌++◌, ℕ}
use Rattle.rx_set.specs.declared.jobs.Job.{Job}
use Rattle.rx_set.specs.System.{TaskRow}
use Rattle.rx_ledger.specs.declared.events.Event.TheVariants.{Release}
use Rattle.rx_slots.specs.Schedule.{slots}
use Rattle.rx_tick.specs.States.{IsState}
use Rattle.rx_tick.proofs.Told.{released_some, state_released, row_is}
use Rattle.rx_tick.proofs.looks.count_release.Goals as goal

pub returns-clause-state : goal.returns-clause-state
returns-clause-state c =
    let past = slots c.args.set.now c.args.now in
    let is = row_is c.tasks.result.now c.args.set.now c.args.task c.index-tasks-task.result c.tasks.ensures.rows c.requires.known c.index-tasks-task.is in
    let P : ℕ → Type 0 = λ period. IsState c.args.set.now past (c.args.now + 1) c.args.task
    (record c.args.state { released = c.args.state.released + 1; next = c.args.state.next + period }) in
    subst P (ap (λ (r : TaskRow). r.period) is)
    (state_released c.args.set.now past c.args.now c.args.task c.args.state c.requires.state c.requires.valid c.requires.known c.requires.comes)

pub returns-clause-told : goal.returns-clause-told
returns-clause-told c =
    let past = slots c.args.set.now c.args.now in
    c.push.ensures.items ∙ ap (λ (js : List Job). c.args.events.now.items ++ map (Release c.args.now) js)
    (sym (released_some c.args.set.now past c.args.now c.args.task c.args.state c.requires.state c.requires.valid c.requires.known c.requires.comes))
