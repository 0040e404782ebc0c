use Rattle.std.proofs.Common.{arith}
use Rattle.rx_text.proofs.Digits.{decimal_by_eight, long_by_eight}
use Rattle.rx_text.proofs.Placing.{placed_then}
use Rattle.rx_text.proofs.numbers.place_wide.Goals as goal

pub place_long-next-requires-clause-room : goal.place_long-next-requires-clause-room
place_long-next-requires-clause-room c = omega (arith, long_by_eight c.args.n c.requires.many c.ranges.n.fits, c.requires.room)

pub place_eight-requires-clause-room : goal.place_eight-requires-clause-room
place_eight-requires-clause-room c =
    omega (arith, long_by_eight c.args.n c.requires.many c.ranges.n.fits, c.requires.room, c.place_long-next.ensures.moved, c.place_long-next.ensures.long)

pub returns : goal.returns
returns c = rw (decimal_by_eight c.args.n c.requires.many c.ranges.n.fits) (placed_then c.place_long-next.ensures c.place_eight.ensures)
