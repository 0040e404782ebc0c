use Rattle.std.proofs.Common.{◌<◌, length, sym, subst}
use Rattle.rx_port.specs.declared.views.View.{View}
use Rattle.rx_port.specs.Core.{own_of}
use Rattle.rx_port.specs.Plain.{plain_core, view_at}
use Rattle.rx_port.proofs.BankSteps.{state_is, own_in_words}
use Rattle.rx_port.proofs.banks.BankPort.own.Goals as goal

pub place_at-requires-clause-number : goal.place_at-requires-clause-number
place_at-requires-clause-number c =
    let ours = rw (← c.self.view_is) at c.requires.ours in
    let exists = rw (← c.self.view_is) at c.requires.exists in
    let below = rw (← c.self.view_is) at c.requires.below in
    let same = state_is c.self.inside.layout c.self.inside.words.items c.self.inside.seats.items c.self.inside.counts c.args.seat.now ours.there c.index.result.now c.index.ensures in
    subst (λ (v : View). c.args.own < length (own_of v c.args.object)) (sym same)
    (own_in_words c.self.inside.layout (view_at (plain_core c.self.inside.words.items c.self.inside.seats.items c.self.inside.counts) c.args.seat.now) c.args.object c.args.own ours.owns exists below).0
