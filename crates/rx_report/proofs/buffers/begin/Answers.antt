use Rattle.std.proofs.Common.{arith, ◌<◌, ◌^◌}
use Rattle.rx_text.proofs.Digits.{long_most}
use Rattle.rx_report.proofs.buffers.begin.Goals as goal

pub returns-then-line-gt0-clause-few : goal.returns-then-line-gt0-clause-few
returns-then-line-gt0-clause-few c =
    let fits : c.line.inside.time < 2 ^ 64 = omega (arith, c.line.ranges) in
    rw (c.line.invariant.1.text c.if-line-gt0.true) (long_most c.line.inside.time fits)
