use Rattle.std.proofs.Common.{arith}
use Rattle.rx_text.proofs.Digits.{long_most, long_short}
use Rattle.rx_text.proofs.numbers.place_number.Goals as goal

pub place_short-requires-clause-room : goal.place_short-requires-clause-room
place_short-requires-clause-room c = omega (arith, long_most c.args.n c.ranges.n.fits, c.requires)

pub returns-then-n-lt10000-clause-few : goal.returns-then-n-lt10000-clause-few
returns-then-n-lt10000-clause-few c = omega (arith, long_most c.args.n c.ranges.n.fits, c.place_short.ensures.moved)

pub place_large-requires-clause-room : goal.place_large-requires-clause-room
place_large-requires-clause-room c = omega (arith, long_most c.args.n c.ranges.n.fits, c.requires)

pub returns-clause-few : goal.returns-clause-few
returns-clause-few c = omega (arith, long_most c.args.n c.ranges.n.fits, c.place_large.ensures.moved)

pub returns-then-n-lt10000-clause-short : goal.returns-then-n-lt10000-clause-short
returns-then-n-lt10000-clause-short c = λ fits. omega (arith, long_short c.args.n fits, c.place_short.ensures.moved)

pub returns-clause-short : goal.returns-clause-short
returns-clause-short c = λ fits. omega (arith, long_short c.args.n fits, c.place_large.ensures.moved)
