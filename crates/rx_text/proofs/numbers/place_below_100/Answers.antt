use Rattle.std.proofs.Common.{arith}
use Rattle.rx_text.proofs.Digits.{decimal_two, long_one, long_two}
use Rattle.rx_text.proofs.numbers.place_below_100.Goals as goal

pub place_one-requires-clause-room : goal.place_one-requires-clause-room
place_one-requires-clause-room c = omega (arith, long_one c.args.n c.if-n-lt10.true, c.requires.room)

pub place_two-requires-clause-room : goal.place_two-requires-clause-room
place_two-requires-clause-room c = omega (arith, long_two c.args.n c.if-n-lt10.false c.requires.few, c.requires.room)

pub returns-else-n-lt10 : goal.returns-else-n-lt10
returns-else-n-lt10 c = rw (decimal_two c.args.n c.if-n-lt10.false c.requires.few) c.place_two.ensures
