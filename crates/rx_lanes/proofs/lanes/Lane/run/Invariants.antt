use Rattle.rx_lanes.specs.Lanes.{Adds}
use Rattle.rx_lanes.specs.Scripts.{calls_to}
use Rattle.rx_lanes.proofs.lanes.Lane.run.Given as goal

abbrev pub invariant-loop-task : goal.invariant-loop-task
invariant-loop-task g l = Adds l.shared (calls_to l.set l.jobs l.workers l.fn.self.number l.task) l.fn.self l.self
