use Rattle.std.proofs.Common.{◌≡◌, ap, arith}
use Rattle.rx_set.specs.System.{TaskRow, task_at}
use Rattle.rx_set.specs.View.{row_of}
use Rattle.rx_edf.specs.ChargedTasks.{IsChargedTask, charged_task_of}
use Rattle.rx_edf.proofs.Costs.{charged_task_valid, task_here}
use Rattle.rx_edf.proofs.charged_tasks.charged_task_of.Goals as goal

pub overflow_add-result : goal.overflow_add-result
overflow_add-result c =
    let valid : IsChargedTask (charged_task_of c.args.set.now c.args.task) = charged_task_valid c.args.set.now c.args.task c.tasks.ensures.valid c.requires.known in
    omega (arith, valid.cost.1, c.cost.ensures, c.charge_edf.ensures.value)

pub returns-clause-valid : goal.returns-clause-valid
returns-clause-valid c =
    let row : task_at c.args.set.now c.args.task ≡ row_of c.index-tasks-task.result = task_here c.args.set.now c.tasks.result.now c.args.task c.index-tasks-task.result c.tasks.ensures.rows c.requires.known c.index-tasks-task.is in
    let valid : IsChargedTask (charged_task_of c.args.set.now c.args.task) = charged_task_valid c.args.set.now c.args.task c.tasks.ensures.valid c.requires.known in
    let period : (task_at c.args.set.now c.args.task).period ≡ c.index-tasks-task.result.period = ap (λ (r : TaskRow). r.period) row in
    let deadline : (task_at c.args.set.now c.args.task).deadline ≡ c.index-tasks-task.result.deadline = ap (λ (r : TaskRow). r.deadline) row in
    record {
      period = (omega (arith, valid.period.0, period), omega (arith, valid.period.1, period));
      deadline = (omega (arith, valid.deadline.0, deadline), omega (arith, valid.deadline.1, deadline, period));
      cost = (omega (arith, valid.cost.0, c.cost.ensures, c.charge_edf.ensures.value), omega (arith, valid.cost.1, c.cost.ensures, c.charge_edf.ensures.value));
    }
