use Rattle.std.proofs.Common.{arith}
use Rattle.rx_port.specs.Core.{one_load}
use Rattle.rx_port.proofs.BankSteps.{began_from, root_read, seats_stay}
use Rattle.rx_port.proofs.banks.BankPort.begin.Goals as goal

pub invariant_of-self : goal.invariant_of-self
invariant_of-self c =
    let ours = rw (← c.self.view_is) at c.requires.ours in
    let exists = rw (← c.self.view_is) at c.requires.exists in
    let fits = rw (← c.self.view_is) at c.requires.fits in
    let root = root_read c.self.inside.layout c.self.inside.words.items _ c.self.invariant.history c.args.object _ c.self.invariant.lawful exists c.index-root.ensures in
    (began_from c.self.inside.layout c.self.inside.words.items c.self.inside.seats.items c.self.inside.counts c.args.seat.now ours.there c.self.invariant c.begin.new.seat c.index_mut.result.now c.index_mut.ensures.value
    c.args.object c.args.call c.index-root.result.now exists fits root c.begin.ensures).0

pub returns-clause-event : goal.returns-clause-event
returns-clause-event c =
    let ours = rw (← c.self.view_is) at c.requires.ours in
    let exists = rw (← c.self.view_is) at c.requires.exists in
    let fits = rw (← c.self.view_is) at c.requires.fits in
    let root = root_read c.self.inside.layout c.self.inside.words.items _ c.self.invariant.history c.args.object _ c.self.invariant.lawful exists c.index-root.ensures in
    rw (← c.self.view_is) (began_from c.self.inside.layout c.self.inside.words.items c.self.inside.seats.items c.self.inside.counts c.args.seat.now ours.there c.self.invariant c.begin.new.seat c.index_mut.result.now c.index_mut.ensures.value
    c.args.object c.args.call c.index-root.result.now exists fits root c.begin.ensures).1

pub returns-clause-port : goal.returns-clause-port
returns-clause-port c =
    let ours = rw (← c.self.view_is) at c.requires.ours in
    rw (← c.self.view_is) (seats_stay c.self.inside.layout c.self.inside.words.items c.self.inside.seats.items c.self.inside.counts c.args.seat.now ours.there c.self.inside.words.items (one_load c.self.inside.counts) c.begin.new.seat (invariant_of-self c) (omega arith, omega arith, omega arith))
