use Rattle.std.proofs.Common.{[]}
use Rattle.rx_set.specs.Exposures.{IsLowest}
use Rattle.rx_set.specs.View.{system_of}
use Rattle.rx_set.proofs.exposures.lowest_levels.Given as goal

abbrev pub invariant-loop-task : goal.invariant-loop-task
invariant-loop-task l = IsLowest (system_of l.policy l.objects l.tasks []) l.task l.lowest
