use Rattle.std.proofs.Common.{refl, ◌∙◌}
use Rattle.rx_table.proofs.Owning.{ours_begun}
use Rattle.rx_table.proofs.ports.SharedPortPort.begin.Goals as goal

pub returns-clause-port : goal.returns-clause-port
returns-clause-port c =
    let ours = rw (← c.self.view_is, ← c.seat.view_is) at c.requires.ours in
    let both = ours_begun c.self.inside.words.now.key c.seat.inside.token.me.0 c.begin.new.seat.me.0 ours.owns ours.keeps c.args.object c.args.call c.begin.result c.begin.ensures.event in
    rw (← c.self.view_is) (record { layout = refl; ours = record { same = c.begin.ensures.same.0 ∙ ours.same; owns = both.0; keeps = both.1 }; others = λ other h. h; room = λ n h. h })
