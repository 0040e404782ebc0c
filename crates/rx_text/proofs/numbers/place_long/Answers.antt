use Rattle.std.proofs.Common.{arith}
use Rattle.rx_text.proofs.Digits.{decimal_by_eight, long_by_eight}
use Rattle.rx_text.proofs.Placing.{placed_then}
use Rattle.rx_text.proofs.numbers.place_long.Goals as goal

pub place_short-next-requires-clause-room : goal.place_short-next-requires-clause-room
place_short-next-requires-clause-room c = omega (arith, long_by_eight c.args.n c.if-n-lt100000000.false (omega arith), c.requires.room)

pub place_eight-requires-clause-room : goal.place_eight-requires-clause-room
place_eight-requires-clause-room c =
    omega (arith, long_by_eight c.args.n c.if-n-lt100000000.false (omega arith), c.requires.room, c.place_short-next.ensures.moved, c.place_short-next.ensures.long)

pub returns : goal.returns
returns c = rw (decimal_by_eight c.args.n c.if-n-lt100000000.false (omega arith)) (placed_then c.place_short-next.ensures c.place_eight.ensures)
