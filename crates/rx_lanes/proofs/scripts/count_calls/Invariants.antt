use Rattle.std.proofs.Common.{◌≡◌, ◌≤◌, ◌*◌, length}
use Rattle.rx_lanes.specs.Scripts.{calls_to}
use Rattle.rx_lanes.proofs.scripts.count_calls.Given as goal

abbrev pub invariant-loop-task : goal.invariant-loop-task
invariant-loop-task l = record {
  count : l.count ≡ length (calls_to l.set l.jobs l.workers l.lane l.task);
  few : l.count ≤ l.task * 12800;
}
