use Rattle.std.proofs.Common.{arith}
use Rattle.rx_object.proofs.Seating.{seat_there, seats_again, number_tried}
use Rattle.rx_object.proofs.tests.try_call.Goals as goal

pub attempt-requires-clause-ours : goal.attempt-requires-clause-ours
attempt-requires-clause-ours c =
    let past = c.if-number-len.false in
    let many = c.len.ensures in seat_there c.args.opened.now.shared c.args.opened.now.seats.items c.args.number c.index_mut.result.now c.requires (omega arith) c.index_mut.ensures.value

pub returns : goal.returns
returns c =
    let past = c.if-number-len.false in
    let many = c.len.ensures in
    seats_again c.args.opened.now.shared c.args.opened.now.seats.items c.args.number c.index_mut.result.now c.attempt.new.seat c.requires (omega arith) c.index_mut.ensures.value c.attempt.ensures.ours
    (number_tried c.args.opened.now.shared.layout c.index_mut.result.now.view c.attempt.new.seat.view 0 c.args.call c.attempt.result c.attempt.ensures.tells)
