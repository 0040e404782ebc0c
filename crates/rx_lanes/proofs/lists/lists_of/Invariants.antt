use Rattle.std.proofs.Common.{ℕ, ◌≡◌, ◌<◌, ◌%◌, take, drop, length}
use Rattle.rx_merge.specs.Merged.{list_at, lists_of}
use Rattle.rx_set.specs.Operations.{script_of}
use Rattle.rx_lanes.specs.Lists.{IsTold}
use Rattle.rx_lanes.specs.Runs.{answers_at, items_of}
use Rattle.rx_lanes.specs.Scripts.{calls_to}
use Rattle.rx_lanes.proofs.lists.lists_of.Given as goal

abbrev pub invariant-loop-task : goal.invariant-loop-task
invariant-loop-task l = record {
  many : length l.lists.items ≡ l.task;
  each : (task : ℕ) → task < l.task → IsTold task (script_of l.set l.jobs task)
      (take (length (script_of l.set l.jobs task)) (drop (length (calls_to l.set l.jobs l.workers (task % l.workers) task)) (answers_at (items_of l.answers) (task % l.workers))))
      (list_at (lists_of l.lists.items) task);
}
