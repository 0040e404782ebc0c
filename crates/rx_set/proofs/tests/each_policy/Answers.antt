use Rattle.std.proofs.Common.{ap}
use Rattle.std.specs.Prelude.{slice_get}
use Rattle.rx_set.specs.System.{System, task_at}
use Rattle.rx_set.proofs.tests.each_policy.Goals as goal

pub ticks-requires-clause-work : goal.ticks-requires-clause-work
ticks-requires-clause-work g c = (1, ap (λ (s : System). slice_get (task_at s 1).items 1) c.in_ok-set.ensures)

pub ticks-requires-in-loop-policy-clause-work : goal.ticks-requires-in-loop-policy-clause-work
ticks-requires-in-loop-policy-clause-work g c = (1, ap (λ (s : System). slice_get (task_at s 1).items 1) c.in_ok-set.ensures)
