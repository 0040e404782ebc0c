use Rattle.std.proofs.Common.{arith}
use Rattle.rx_tick.proofs.Banks.{made_small}
use Rattle.rx_tick.proofs.slots.advance.Goals as goal

pub note-requires-clause-made : goal.note-requires-clause-made
note-requires-clause-made c = omega (arith, made_small c.args.set.now c.args.now c.args.job c.args.state.now c.args.objects.now c.requires.is)
