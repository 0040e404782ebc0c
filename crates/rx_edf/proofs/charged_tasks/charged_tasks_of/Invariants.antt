use Rattle.std.proofs.Common.{◌≡◌, map}
use Rattle.rx_set.specs.System.{numbers}
use Rattle.rx_set.specs.Valid.{IsValid}
use Rattle.rx_edf.specs.ChargedTasks.{charged_task_of}
use Rattle.rx_edf.proofs.charged_tasks.charged_tasks_of.Given as goal

abbrev pub invariant-loop-task : goal.invariant-loop-task
invariant-loop-task l = record {
  is : l.charged.items ≡ map (charged_task_of l.set) (numbers l.task);
  valid : IsValid l.set;
}
