use Rattle.std.proofs.Common.{arith}
use Rattle.rx_port.specs.Core.{one_load}
use Rattle.rx_shape.proofs.Numbering.{in_words}
use Rattle.rx_port.proofs.BankSteps.{read_from, place_read, seats_stay}
use Rattle.rx_port.proofs.banks.BankPort.read.Goals as goal

pub index-word-requires : goal.index-word-requires
index-word-requires c =
    let exists = rw (← c.self.view_is) at c.requires.exists in
    let range = rw (← c.self.view_is) at c.requires.range in
    let below = in_words c.self.inside.layout c.args.object c.args.place exists range in
    let size = c.self.invariant.lawful.size in omega arith

pub invariant_of-self : goal.invariant_of-self
invariant_of-self c =
    let ours = rw (← c.self.view_is) at c.requires.ours in
    let exists = rw (← c.self.view_is) at c.requires.exists in
    let range = rw (← c.self.view_is) at c.requires.range in
    let is = rw (← c.self.view_is) at c.requires.open.is in
    let word = place_read c.self.inside.layout c.self.inside.words.items _ c.self.invariant.history c.args.object c.args.place _ c.self.invariant.lawful exists range c.index-word.ensures in
    (read_from c.self.inside.layout c.self.inside.words.items c.self.inside.seats.items c.self.inside.counts c.args.seat.now ours.there c.self.invariant c.read.new.seat c.index_mut.result.now c.index_mut.ensures.value
    c.requires.open.attempt c.args.place c.index-word.result.now is word c.read.ensures).0

pub returns-clause-event : goal.returns-clause-event
returns-clause-event c attempt open_is =
    let ours = rw (← c.self.view_is) at c.requires.ours in
    let exists = rw (← c.self.view_is) at c.requires.exists in
    let range = rw (← c.self.view_is) at c.requires.range in
    let is = rw (← c.self.view_is) at open_is in
    let word = place_read c.self.inside.layout c.self.inside.words.items _ c.self.invariant.history c.args.object c.args.place _ c.self.invariant.lawful exists range c.index-word.ensures in
    rw (← c.self.view_is) (read_from c.self.inside.layout c.self.inside.words.items c.self.inside.seats.items c.self.inside.counts c.args.seat.now ours.there c.self.invariant c.read.new.seat c.index_mut.result.now c.index_mut.ensures.value
    attempt c.args.place c.index-word.result.now is word c.read.ensures).1

pub returns-clause-port : goal.returns-clause-port
returns-clause-port c =
    let ours = rw (← c.self.view_is) at c.requires.ours in
    rw (← c.self.view_is) (seats_stay c.self.inside.layout c.self.inside.words.items c.self.inside.seats.items c.self.inside.counts c.args.seat.now ours.there c.self.inside.words.items (one_load c.self.inside.counts) c.read.new.seat (invariant_of-self c) (omega arith, omega arith, omega arith))
