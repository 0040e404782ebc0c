use Rattle.std.proofs.Common.{◌≡◌, [], map}
use Rattle.rx_set.specs.Charges.{exposure}
use Rattle.rx_set.specs.System.{numbers}
use Rattle.rx_set.specs.View.{system_of}
use Rattle.rx_set.proofs.exposures.exposures_of.Given as goal

abbrev pub invariant-loop-task : goal.invariant-loop-task
invariant-loop-task l = l.exposures.items ≡ map (exposure (system_of l.policy l.objects l.tasks [])) (numbers l.task)
