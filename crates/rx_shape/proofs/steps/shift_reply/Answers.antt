use Rattle.std.proofs.Common.{arith}
use Rattle.rx_shape.proofs.Walked.{shift_nothing}
use Rattle.rx_shape.proofs.steps.shift_reply.Goals as goal

pub returns-in-Some : goal.returns-in-Some
returns-in-Some c state begins =
    let there = (c.in_ok-register.ensures state begins).1 in
    let sum = c.in-Some.ensures in
    shift_nothing state c.args.from c.args.to c.args.n c.in-Some.v c.if-n-eq0.true (omega arith) (omega arith)
