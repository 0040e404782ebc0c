use Rattle.std.proofs.Common.{◌<◌, ◌+◌, ℕ}
use Rattle.rx_tick.specs.States.{IsBeforeDue, state_at}
use Rattle.rx_tick.proofs.looks.next_due.Given as goal

abbrev pub invariant-loop-task : goal.invariant-loop-task
invariant-loop-task l = (task : ℕ) → task < l.task → IsBeforeDue l.set (l.now + 1) l.watch task (state_at l.states task)
