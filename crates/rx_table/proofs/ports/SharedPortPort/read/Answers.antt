use Rattle.std.proofs.Common.{arith}
use Rattle.rx_shape.proofs.Numbering.{in_words}
use Rattle.rx_table.proofs.ports.SharedPortPort.read.Goals as goal

pub read-requires-clause-own : goal.read-requires-clause-own
read-requires-clause-own c =
    let ours = rw (← c.self.view_is, ← c.seat.view_is) at c.requires.ours in
    let exists = rw (← c.self.view_is) at c.requires.exists in
    let range = rw (← c.self.view_is) at c.requires.range in
    let below = in_words c.self.inside.words.now.key c.args._object c.args.place exists range in
    let many = c.self.invariant.1 in (ours.same, omega arith)
