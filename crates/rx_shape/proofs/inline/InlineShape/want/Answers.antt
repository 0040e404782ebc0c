use Rattle.rx_shape.proofs.InlinePlans.{settled_inline}
use Rattle.rx_shape.proofs.inline.InlineShape.want.Goals as goal

pub returns-clause-wants : goal.returns-clause-wants
returns-clause-wants c = settled_inline c.args.self.now.home c.args.self.now.cell c.args.self.now.call c.args.self.now.fits c.args._root c.quiet_calls_stay.ensures.quiet
