use Rattle.std.proofs.Common.{◌≡◌, ◌<◌, ◌∙◌, ◌++◌, List, map, length, ap, arith}
use Rattle.rx_lanes.specs.declared.lanes.Lane.{Lane}
use Rattle.std.proofs.lemmas.List.Elements.{All-same, All-push}
use Rattle.rx_lanes.specs.Lanes.{IsNew, seat_of, number_of}
use Rattle.rx_lanes.proofs.Seats.{moved, number_more}
use Rattle.rx_lanes.proofs.tables.lanes_of.Goals as goal

pub loop-alloc-preserved : goal.loop-alloc-preserved
loop-alloc-preserved c =
    let full : 0 < length c.loop-alloc.seats.items = omega (arith, c.loop-alloc-test.ensures, c.loop-alloc.seats.ok.0) in
    let many : c.len.result ≡ length c.loop-alloc.lanes.items = omega (arith, c.len.ensures, c.loop-alloc.lanes.ok.0) in
    let more = number_more number_of c.loop-alloc.lanes.items c.push.new.self.items c.in_ok-lane.lane c.in-Ok.ensures.items c.loop-alloc.invariant.numbers (c.in_ok-lane.ensures.number ∙ many) in
    record {
      seats = ap (λ (xs : List Lane). map seat_of xs ++ c.remove-seat.new.self.items) c.in-Ok.ensures.items
          ∙ moved seat_of c.loop-alloc.lanes.items c.loop-alloc.seats.items c.remove-seat.new.self.items c.args.seats.items c.remove-seat.result c.in_ok-lane.lane full c.remove-seat.ensures.value c.remove-seat.ensures.items c.in_ok-lane.ensures.seat c.loop-alloc.invariant.seats;
      numbers = more;
      new = All-same (IsNew c.args.set.now c.args.jobs c.args.workers) c.push.new.self.items _ c.in-Ok.ensures.items
          (All-push (IsNew c.args.set.now c.args.jobs c.args.workers) c.loop-alloc.lanes.items c.in_ok-lane.lane c.loop-alloc.invariant.new c.in_ok-lane.ensures.new);
    }
