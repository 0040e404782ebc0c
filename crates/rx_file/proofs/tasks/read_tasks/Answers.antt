use Rattle.std.proofs.Common.{arith}
use Rattle.std.proofs.lemmas.Grind.{common_steps}
use Rattle.rx_set.specs.Valid.{IsTaskRow, task_name}
use Rattle.rx_file.specs.Gives.{alone}
use Rattle.rx_file.proofs.Valid.{rows_next}
use Rattle.rx_file.proofs.tasks.read_tasks.Goals as goal

pub loop-value-preserved : goal.loop-value-preserved
loop-value-preserved c = record {
  tasks = grind (arith, common_steps);
  good =
      rw c.in_ok-tasks.ensures.tasks
      (rows_next (IsTaskRow (alone c.args.objects.now)) task_name _ _ c.loop-value.invariant.good c.in_ok-task.ensures.good c.in_ok-task.ensures.new);
  count = grind (arith, common_steps);
}
