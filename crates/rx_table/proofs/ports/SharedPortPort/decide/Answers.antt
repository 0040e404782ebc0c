use Rattle.std.proofs.Common.{refl, ◌∙◌}
use Rattle.rx_table.proofs.Owning.{attempt_is, pairs_place, ours_decided}
use Rattle.rx_table.proofs.ports.SharedPortPort.decide.Goals as goal

pub settle-requires-clause-pairs : goal.settle-requires-clause-pairs
settle-requires-clause-pairs c =
    let ours = rw (← c.self.view_is, ← c.seat.view_is) at c.requires.ours in
    let exists = rw (← c.self.view_is) at c.requires.exists in
    let ready = rw (← c.self.view_is, ← c.seat.view_is) at c.requires.ready in
    rw (c.as_slice-pairs.ensures.value) (pairs_place c.self.inside.words.now.key c.seat.inside.token.me.0 _ c.args.object ready.attempt c.args.new _ c.seat.invariant.0 ours.owns exists ready.on ready.decision)

pub returns-clause-event : goal.returns-clause-event
returns-clause-event c attempt is =
    let is' = rw (← c.seat.view_is) at is in
    let e = rw (c.as_slice-pairs.ensures.value, attempt_is c.seat.inside.token.me.0.attempt attempt is') at c.decide-found.ensures.event in
    rw (← c.self.view_is, ← c.seat.view_is) e

pub returns-clause-port : goal.returns-clause-port
returns-clause-port c =
    let ours = rw (← c.self.view_is, ← c.seat.view_is) at c.requires.ours in
    let ready = rw (← c.self.view_is, ← c.seat.view_is) at c.requires.ready in
    let e = rw (c.as_slice-pairs.ensures.value, attempt_is c.seat.inside.token.me.0.attempt ready.attempt ready.decision.is_open) at c.decide-found.ensures.event in
    let both = ours_decided c.self.inside.words.now.key c.seat.inside.token.me.0 c.decide-found.new.seat.me.0 ours.owns ours.keeps ready.attempt c.args.new c.args.trade.now.pairs.items c.decide-found.result ready.decision e in
    rw (← c.self.view_is) (record { layout = refl; ours = record { same = c.decide-found.ensures.same.0 ∙ ours.same; owns = both.0; keeps = both.1 }; others = λ other h. h; room = λ n h. h })
