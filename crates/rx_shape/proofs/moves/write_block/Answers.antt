use Rattle.std.proofs.Common.{ap, length, arith}
use Rattle.rx_shape.proofs.Moving.{writes_few, writes_grow}
use Rattle.rx_shape.proofs.moves.write_block.Goals as goal

pub push-requires-in-loop-number : goal.push-requires-in-loop-number
push-requires-in-loop-number c =
    let many = ap length c.loop-number.invariant in
    let numbers = writes_few c.loop-number.number c.args.state.now in
    let few = c.requires in let below = c.loop-number-test.true in (omega arith, omega arith)

pub loop-number-preserved : goal.loop-number-preserved
loop-number-preserved c =
    writes_grow c.args.state.now c.loop-number.number c.from.result c.loop-number.writes.items c.push-in-loop-number.new.self.items c.loop-number-test.true c.from.ensures c.loop-number.invariant c.push-in-loop-number.ensures.items
