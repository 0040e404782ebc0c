use Rattle.rx_lanes.specs.Lanes.{Adds}
use Rattle.rx_set.specs.Operations.{operations_of, repeated}
use Rattle.rx_lanes.proofs.lanes.Lane.make_jobs.Given as goal

abbrev pub invariant-loop : goal.invariant-loop
invariant-loop g l = Adds l.shared (repeated l.counter (operations_of l.items)) l.fn.self l.self
