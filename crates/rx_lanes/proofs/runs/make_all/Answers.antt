use Rattle.std.proofs.Common.{sym, subst, All}
use Rattle.rx_lanes.specs.Lanes.{IsReady}
use Rattle.rx_lanes.proofs.Seats.{lanes_ready}
use Rattle.rx_lanes.proofs.runs.make_all.Goals as goal

pub run_all-requires-clause-ready : goal.run_all-requires-clause-ready
run_all-requires-clause-ready g c κs lives =
    subst (All (IsReady c.in_ok-shared.field-0.shared c.args.set.now c.args.jobs c.args.workers)) (sym c.as_mut_slice.ensures.value)
    (lanes_ready c.in_ok-shared.field-0.shared c.args.set.now c.args.jobs c.args.workers c.in_ok-shared.field-0.seats.items c.in_ok-lanes.lanes.items c.in_ok-shared.ensures.seats c.in_ok-shared.ensures.fresh c.in_ok-lanes.ensures.seats c.in_ok-lanes.ensures.numbers c.in_ok-lanes.ensures.new)
