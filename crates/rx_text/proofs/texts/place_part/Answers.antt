use Rattle.std.proofs.Common.{arith}
use Rattle.rx_text.proofs.Placing.{placed_part}
use Rattle.rx_text.proofs.texts.place_part.Goals as goal

pub returns : goal.returns
returns g c = placed_part c.args.text.now c.args.len c.requires.part.0 c.requires.part.1 (omega (arith, c.requires.room)) c.place_front-whole.ensures
