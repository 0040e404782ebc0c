use Rattle.std.proofs.Common.{arith}
use Rattle.rx_shape.proofs.Numbering.{place_few}
use Rattle.rx_shape.proofs.layouts.Layout.place_after.Goals as goal

pub returns-clause-bound : goal.returns-clause-bound
returns-clause-bound c =
    let object = rw (← c.self.view_is) at c.requires in
    let end = c.self.invariant.1.each c.args.object object in
    let few = place_few (record { parts = c.self.inside.parts.items; seats = c.self.inside.seats; first = c.self.inside.first }) c.args.object c.self.invariant.0 in
    let kept = c.deref.ensures.0 in
    rw (kept) (omega arith)
