use Rattle.rx_tick.proofs.Told.{due_of_job, row_is}
use Rattle.rx_tick.proofs.looks.due_after.Goals as goal

pub returns-then-now-row : goal.returns-then-now-row
returns-then-now-row c =
    due_of_job c.args.set.now _ _ _ _ _ c.requires.state c.requires.valid c.requires.known (row_is c.tasks.result.now c.args.set.now c.args.task c.index-tasks-task.result c.tasks.ensures.rows c.requires.known c.index-tasks-task.is) c.if-state.true
