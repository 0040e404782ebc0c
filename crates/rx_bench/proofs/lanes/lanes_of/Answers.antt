use Rattle.std.proofs.Common.{◌≡◌, length, length-append, ap, ◌∙◌, arith}
use Rattle.rx_table.specs.Tables.{IsSeatOf}
use Rattle.rx_table.proofs.Gathering.{each_popped}
use Rattle.rx_bench.proofs.Making.{no_lanes, one_lane_more}
use Rattle.rx_bench.proofs.lanes.lanes_of.Goals.{then-is_empty, else-is_empty}
use Rattle.rx_bench.proofs.lanes.lanes_of.Goals as goal

pub loop-seat-init : goal.loop-seat-init
loop-seat-init c =
    let none : length c.new-lanes.result.items ≡ 0 = ap length c.new-lanes.ensures.items in
    record {
      seats = λ n seat at. (c.requires.seats.each n seat at).0;
      lanes = no_lanes c.args.shared.now c.new-lanes.result.items c.new-lanes.ensures.items;
      many = omega arith;
    }

pub fill-requires-clause-ours : goal.fill-requires-clause-ours
fill-requires-clause-ours c = (each_popped c.args.shared.now c.loop-seat.seats.items c.pop.new.self.items c.in-Some.seat c.in-Some.ensures.items c.loop-seat.invariant.seats).1

pub loop-seat-preserved : goal.loop-seat-preserved
loop-seat-preserved c =
    let popped = each_popped c.args.shared.now c.loop-seat.seats.items c.pop.new.self.items c.in-Some.seat c.in-Some.ensures.items c.loop-seat.invariant.seats in
    let ours : IsSeatOf c.args.shared.now c.if-is_empty.seat = elim c.if-is_empty.branch [ then-is_empty w ↦ rw w.seat-is w.fill.ensures | else-is_empty w ↦ rw w.seat-is popped.1 ] in
    let so_far = c.loop-seat.invariant.many in
    let one_less = ap length c.in-Some.ensures.items ∙ length-append c.pop.new.self.items _ in
    let one_more = ap length c.in-Ok.ensures.items ∙ length-append c.loop-seat.lanes.items _ in
    record {
      seats = popped.0;
      lanes = one_lane_more c.args.shared.now c.loop-seat.lanes.items c.push.new.self.items _ c.in-Ok.ensures.items c.loop-seat.invariant.lanes ours;
      many = omega (arith, so_far, one_less, one_more);
    }
