use Rattle.std.proofs.Common.{ℕ, ◌≡◌, ap, ◌∙◌, sym, subst, arith, length, map}
use Rattle.std.proofs.lemmas.List.{length-map}
use Rattle.rx_set.specs.System.{numbers}
use Rattle.rx_set.specs.View.{row_of}
use Rattle.rx_set.proofs.Counts.{length-numbers}
use Rattle.rx_edf.specs.ChargedTasks.{AreChargedTasks, charged_task_of}
use Rattle.rx_edf.proofs.Costs.{charged_tasks_valid}
use Rattle.rx_edf.proofs.charged_tasks.charged_tasks_of.Goals as goal

pub push-requires : goal.push-requires
push-requires c = (
  omega arith,
  omega (
    arith,
    ap length c.loop-task.invariant.is,
    length-map (numbers c.loop-task.task) (charged_task_of c.args.set.now),
    length-numbers c.loop-task.task,
    c.loop-task-test.true,
    ap length c.tasks-task-end.ensures.rows,
    length-map c.tasks-task-end.result.now row_of,
    c.tasks-task-end.ensures.valid.some_tasks.1,
  ),
)

pub returns-clause-valid : goal.returns-clause-valid
returns-clause-valid c =
    let all : c.loop-task.task ≡ length c.args.set.now.tasks = omega (arith, c.loop-task-test.false, c.loop-task.auto.task-end, ap length c.tasks-task-end.ensures.rows, length-map c.tasks-task-end.result.now row_of) in
    subst AreChargedTasks (sym (c.loop-task.invariant.is ∙ ap (λ (n : ℕ). map (charged_task_of c.args.set.now) (numbers n)) all)) (charged_tasks_valid c.args.set.now c.tasks-task-end.ensures.valid)
