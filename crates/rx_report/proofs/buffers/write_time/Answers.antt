use Rattle.std.proofs.Common.{◌≤◌, ◌<◌, ◌^◌, length, arith}
use Rattle.rx_report.proofs.Times.{counted_up, keeps_time, time_short}
use Rattle.rx_report.proofs.buffers.write_time.Goals as goal

pub invariant_of-line : goal.invariant_of-line
invariant_of-line c =
    let fits : c.line.inside.time < 2 ^ 64 = omega (arith, c.line.ranges) in
    let inside : c.line.inside.digits ≤ length c.line.inside.bytes = omega (arith, c.line.told, c.line.invariant.0, c.line.invariant.1.within) in
    let is =
    counted_up fits c.ranges.time.fits inside c.if-line-gt4.true (c.line.invariant.1.text (omega (arith, c.if-line-gt4.true))) c.line.invariant.1.base_is c.if-time-line.true c.if-time-line-lt10000.true
    c.place_four-line-inside.ensures in
    (omega (arith, is.few), keeps_time is)

pub returns-then-time-line-lt10000-clause-text : goal.returns-then-time-line-lt10000-clause-text
returns-then-time-line-lt10000-clause-text c =
    let fits : c.line.inside.time < 2 ^ 64 = omega (arith, c.line.ranges) in
    let inside : c.line.inside.digits ≤ length c.line.inside.bytes = omega (arith, c.line.told, c.line.invariant.0, c.line.invariant.1.within) in
    let is =
    counted_up fits c.ranges.time.fits inside c.if-line-gt4.true (c.line.invariant.1.text (omega (arith, c.if-line-gt4.true))) c.line.invariant.1.base_is c.if-time-line.true c.if-time-line-lt10000.true
    c.place_four-line-inside.ensures in
    is.text

pub returns-then-time-line-lt10000-clause-few : goal.returns-then-time-line-lt10000-clause-few
returns-then-time-line-lt10000-clause-few c =
    let fits : c.line.inside.time < 2 ^ 64 = omega (arith, c.line.ranges) in
    let inside : c.line.inside.digits ≤ length c.line.inside.bytes = omega (arith, c.line.told, c.line.invariant.0, c.line.invariant.1.within) in
    let is =
    counted_up fits c.ranges.time.fits inside c.if-line-gt4.true (c.line.invariant.1.text (omega (arith, c.if-line-gt4.true))) c.line.invariant.1.base_is c.if-time-line.true c.if-time-line-lt10000.true
    c.place_four-line-inside.ensures in
    time_short (omega (arith, is.few, c.line.told, c.place_four-line-inside.ensures.long)) is
