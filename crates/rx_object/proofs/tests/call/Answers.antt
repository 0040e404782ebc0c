use Rattle.std.proofs.Common.{arith}
use Rattle.rx_object.proofs.Seating.{seat_there, seats_again, number_called}
use Rattle.rx_object.proofs.tests.call.Goals as goal

pub operate-requires-clause-ours : goal.operate-requires-clause-ours
operate-requires-clause-ours c =
    let past = c.if-number-len.false in
    let many = c.len.ensures in seat_there c.args.opened.now.shared c.args.opened.now.seats.items c.args.number c.index_mut.result.now c.requires (omega arith) c.index_mut.ensures.value

pub returns : goal.returns
returns c =
    let past = c.if-number-len.false in
    let many = c.len.ensures in
    seats_again c.args.opened.now.shared c.args.opened.now.seats.items c.args.number c.index_mut.result.now c.operate.new.seat c.requires (omega arith) c.index_mut.ensures.value c.operate.ensures.ours
    (number_called c.args.opened.now.shared.layout c.index_mut.result.now.view c.operate.new.seat.view 0 c.args.call c.operate.result c.operate.ensures.tells)
