use Rattle.rx_set.specs.Operations.{operations_of}
use Rattle.rx_lanes.proofs.Making.{room_job, adds_job}
use Rattle.rx_lanes.proofs.lanes.Lane.make_jobs.Goals as goal

pub make_job-requires-clause-room : goal.make_job-requires-clause-room
make_job-requires-clause-room g c = room_job c.args.shared.now (operations_of c.args.items.now) c.loop.counter c.args.jobs c.args.self.now c.loop.self c.loop-test.true c.requires.room c.loop.invariant

pub loop-preserved : goal.loop-preserved
loop-preserved g c = adds_job c.args.shared.now (operations_of c.args.items.now) c.loop.counter c.args.self.now c.loop.self c.make_job.new.self c.loop.invariant c.make_job.ensures
