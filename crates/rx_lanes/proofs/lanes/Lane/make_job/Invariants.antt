use Rattle.std.proofs.Common.{take}
use Rattle.rx_lanes.specs.Lanes.{Adds}
use Rattle.rx_set.specs.Operations.{operations_of}
use Rattle.rx_lanes.proofs.lanes.Lane.make_job.Given as goal

abbrev pub invariant-loop-item : goal.invariant-loop-item
invariant-loop-item g l = Adds l.shared (operations_of (take l.item-index l.items)) l.fn.self l.self
