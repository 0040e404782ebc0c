use Rattle.std.proofs.Common.{◌+◌}
use Rattle.std.proofs.lemmas.Fmt.{decimal_digit}
use Rattle.rx_text.proofs.Placing.{placed_byte}
use Rattle.rx_text.proofs.numbers.place_one.Goals as goal

pub returns : goal.returns
returns c = rw (decimal_digit c.args.n c.requires.digit) (placed_byte c.args.bytes.now c.args.at (48 + c.args.n) c.requires.room)
