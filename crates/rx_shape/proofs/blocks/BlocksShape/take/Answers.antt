use Rattle.rx_shape.specs.Words.{low_of as low_in}
use Rattle.rx_shape.proofs.BlockWants.{took}
use Rattle.rx_shape.proofs.blocks.BlocksShape.take.Goals as goal

pub returns-clause-taken : goal.returns-clause-taken
returns-clause-taken c root place next = took c.args.self.now.home c.args.self.now.step (low_in root) place c.args.word c.args.self.now.words.items c.push.new.self.items c.push.ensures.items next
