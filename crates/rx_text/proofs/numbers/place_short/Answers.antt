use Rattle.std.proofs.Common.{arith}
use Rattle.rx_text.proofs.Digits.{decimal_by_two, long_by_two}
use Rattle.rx_text.proofs.Placing.{placed_then}
use Rattle.rx_text.proofs.numbers.place_short.Goals as goal

pub place_below_100-next-requires-clause-room : goal.place_below_100-next-requires-clause-room
place_below_100-next-requires-clause-room c = omega (arith, long_by_two c.args.n c.if-n-lt100.false (omega arith), c.requires.room)

pub place_two-requires-clause-room : goal.place_two-requires-clause-room
place_two-requires-clause-room c =
    omega (arith, long_by_two c.args.n c.if-n-lt100.false (omega arith), c.requires.room, c.place_below_100-next.ensures.moved, c.place_below_100-next.ensures.long)

pub returns : goal.returns
returns c = rw (decimal_by_two c.args.n c.if-n-lt100.false (omega arith)) (placed_then c.place_below_100-next.ensures c.place_two.ensures)
