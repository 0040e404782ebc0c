use Rattle.std.proofs.Common.{ap, ◌∙◌, arith}
use Rattle.rx_table.specs.Tables.{SeatView}
use Rattle.rx_table.proofs.Owning.{own_place}
use Rattle.rx_table.proofs.ports.SharedPortPort.write.Goals as goal

pub place_at-place-requires-clause-number : goal.place_at-place-requires-clause-number
place_at-place-requires-clause-number c =
    let same = c.seat.invariant.0 ∙ ap (λ (x : SeatView). x.view.own) c.seat.view_is in
    (own_place c.args.self.now.layout c.args.seat.now.view _ c.args.object c.args.own same c.requires.ours.owns c.requires.exists c.requires.open.below).0

pub write-requires-clause-own : goal.write-requires-clause-own
write-requires-clause-own c =
    let ours = rw (← c.self.view_is, ← c.seat.view_is) at c.requires.ours in
    let exists = rw (← c.self.view_is) at c.requires.exists in
    let below = rw (← c.self.view_is) at c.requires.open.below in
    let place = own_place c.self.inside.words.now.key c.seat.inside.token.me.0 _ c.args.object c.args.own c.seat.invariant.0 ours.owns exists below in
    let is = c.place_at-place.ensures in
    let many = c.self.invariant.1 in
    let first = place.1 in
    let second = place.2 in (ours.same, omega arith, omega arith)
