use Rattle.std.proofs.Common.{arith}
use Rattle.rx_io.proofs.Gathering.{handed_all, handed_part}
use Rattle.rx_io.proofs.pages.PageSink.hand_over.Goals as goal

pub returns-then-self-clause-bytes : goal.returns-then-self-clause-bytes
returns-then-self-clause-bytes g c =
    rw (← c.self.view_is) (handed_part _ _ _ _ c.self.inside.at c.self.inside.len c.write_out.result c.self.invariant.0 c.deref.ensures.value c.write_out.ensures.bytes)

pub returns-clause-bytes : goal.returns-clause-bytes
returns-clause-bytes g c =
    rw (← c.self.view_is) (handed_all _ _ _ _ c.self.inside.at c.self.inside.len c.write_out.result c.self.invariant.0 c.deref.ensures.value c.write_out.ensures.bytes (omega (arith, c.if-self.false)))
