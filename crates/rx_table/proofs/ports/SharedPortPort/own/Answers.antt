use Rattle.std.proofs.Common.{ap, ◌∙◌}
use Rattle.rx_table.specs.Tables.{SeatView}
use Rattle.rx_table.proofs.Owning.{own_place}
use Rattle.rx_table.proofs.ports.SharedPortPort.own.Goals as goal

pub place_at-requires-clause-number : goal.place_at-requires-clause-number
place_at-requires-clause-number c =
    let same = c.seat.invariant.0 ∙ ap (λ (x : SeatView). x.view.own) c.seat.view_is in
    (own_place c.args.self.now.layout c.args.seat.now.view _ c.args.object c.args.own same c.requires.ours.owns c.requires.exists c.requires.below).0
