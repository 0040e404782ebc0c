use Rattle.std.proofs.Common.{◌≡◌, [], length, drop}
use Rattle.toml.specs.View.{items_view}
use Rattle.rx_file.specs.Arrays.{all_after}
use Rattle.rx_file.specs.SetOf.{task_of_value}
use Rattle.rx_file.specs.Gives.{AreTasks}
use Rattle.rx_file.proofs.tasks.read_tasks.Given as goal

abbrev pub invariant-loop-value : goal.invariant-loop-value
invariant-loop-value l = record {
  tasks :
      all_after (task_of_value l.objects) [] (items_view l.values)
      ≡ all_after (task_of_value l.objects) l.tasks (items_view (drop l.value-index l.values));
  good : AreTasks l.objects l.tasks;
  count : length l.tasks ≡ l.value-index;
}
