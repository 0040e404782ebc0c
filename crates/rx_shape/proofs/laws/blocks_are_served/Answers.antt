use Rattle.rx_shape.proofs.Served.{blocks_served}
use Rattle.rx_shape.proofs.laws.blocks_are_served.Goals as goal

pub returns : goal.returns
returns c layout object call limits there form fits = blocks_served layout object call limits there form fits
