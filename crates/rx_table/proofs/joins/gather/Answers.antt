use Rattle.std.proofs.Common.{sym}
use Rattle.rx_table.proofs.Gathering.{each_popped, carried_popped, carried_step}
use Rattle.rx_table.proofs.joins.gather.Goals as goal

pub loop-seat-init : goal.loop-seat-init
loop-seat-init c =
    let both = each_popped (record { layout = c.args.words.now.key; table = c.args.words.now.table_id }) c.args.seats.items c.pop.new.self.items c.in-Some.last c.in-Some.ensures.items c.requires.seats in
    record { last = both.1; each = both.0; sum = sym (carried_popped c.args.seats.items c.pop.new.self.items c.in-Some.last c.in-Some.ensures.items) }

pub take_in-last-requires-clause-seat : goal.take_in-last-requires-clause-seat
take_in-last-requires-clause-seat c =
    (each_popped (record { layout = c.args.words.now.key; table = c.args.words.now.table_id }) c.loop-seat.seats.items c.pop-in-loop-seat.new.self.items c.in-Some-pop.seat c.in-Some-pop.ensures.items c.loop-seat.invariant.each).1

pub loop-seat-preserved : goal.loop-seat-preserved
loop-seat-preserved c =
    let both = each_popped (record { layout = c.args.words.now.key; table = c.args.words.now.table_id }) c.loop-seat.seats.items c.pop-in-loop-seat.new.self.items c.in-Some-pop.seat c.in-Some-pop.ensures.items c.loop-seat.invariant.each in
    record {
      last = c.take_in-last.ensures.seat;
      each = both.0;
      sum = carried_step c.loop-seat.seats.items c.pop-in-loop-seat.new.self.items c.in-Some-pop.seat c.loop-seat.last c.take_in-last.result _ c.in-Some-pop.ensures.items c.take_in-last.ensures.taker c.loop-seat.invariant.sum;
    }
