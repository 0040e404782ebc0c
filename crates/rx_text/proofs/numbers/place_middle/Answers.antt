use Rattle.std.proofs.Common.{arith}
use Rattle.rx_text.proofs.Digits.{decimal_by_four, long_by_four}
use Rattle.rx_text.proofs.Placing.{placed_then}
use Rattle.rx_text.proofs.numbers.place_middle.Goals as goal

pub place_short-next-requires-clause-room : goal.place_short-next-requires-clause-room
place_short-next-requires-clause-room c = omega (arith, long_by_four c.args.n c.if-n-lt10000.false (omega arith), c.requires.room)

pub place_four-requires-clause-room : goal.place_four-requires-clause-room
place_four-requires-clause-room c =
    omega (arith, long_by_four c.args.n c.if-n-lt10000.false (omega arith), c.requires.room, c.place_short-next.ensures.moved, c.place_short-next.ensures.long)

pub returns : goal.returns
returns c = rw (decimal_by_four c.args.n c.if-n-lt10000.false (omega arith)) (placed_then c.place_short-next.ensures c.place_four.ensures)
