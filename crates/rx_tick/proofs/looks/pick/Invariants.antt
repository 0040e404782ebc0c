use Rattle.std.proofs.Common.{◌≡◌}
use Rattle.rx_tick.specs.States.{best_of}
use Rattle.rx_tick.proofs.looks.pick.Given as goal

abbrev pub invariant-loop-task : goal.invariant-loop-task
invariant-loop-task l = l.best ≡ best_of l.set l.task l.states
