use Rattle.std.proofs.Common.{◌≡◌, take}
use Rattle.rx_tick.proofs.Firsts.{firsts}
use Rattle.rx_tick.proofs.executive.first_states.Given as goal

abbrev pub invariant-loop-task : goal.invariant-loop-task
invariant-loop-task l = l.states.items ≡ firsts (take l.task-index l.tasks)
