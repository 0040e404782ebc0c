use Rattle.std.proofs.Common.{ℕ, ◌≡◌, ◌+◌, length, set, sym, ap, ◌∙◌, subst, arith}
use Rattle.std.specs.Prelude.{◌==◌, None}
use Rattle.std.proofs.lemmas.Option.{same_Some}
use Rattle.rx_seq.specs.History.{part_at}
use Rattle.rx_shape.specs.Asks.{EachBelow}
use Rattle.rx_shape.specs.Forms.{stock_size}
use Rattle.rx_shape.specs.Layout.{home, root_of}
use Rattle.rx_shape.proofs.Local.{stock_many}
use Rattle.rx_port.specs.declared.views.View.{View}
use Rattle.rx_port.specs.Core.{own_of, one_exchange, traded_own}
use Rattle.rx_port.specs.Plain.{view_of}
use Rattle.rx_port.proofs.BankSteps.{pairs_below, decided_from, state_is, root_read, seats_stay}
use Rattle.rx_port.proofs.banks.BankPort.decide.Goals as goal

pub decide-requires-clause-pairs : goal.decide-requires-clause-pairs
decide-requires-clause-pairs c =
    let ours = rw (← c.self.view_is) at c.requires.ours in
    let exists = rw (← c.self.view_is) at c.requires.exists in
    let decision = rw (← c.self.view_is) at c.requires.ready.decision in
    let below = pairs_below c.self.inside.layout _ c.requires.ready.attempt c.args.new c.args.trade.now.pairs.items decision in
    let pairs = subst (λ (o : ℕ). EachBelow (stock_size (part_at c.self.inside.layout.parts o)) c.args.trade.now.pairs.items) c.requires.ready.on below in
    let same = state_is c.self.inside.layout c.self.inside.words.items c.self.inside.seats.items c.self.inside.counts c.args.seat.now ours.there c.index_mut-2.result.now c.index_mut-2.ensures.value in
    let many = ap (λ (v : View). length (own_of v c.args.object)) same ∙ stock_many (home c.self.inside.layout c.args.object) _ (ours.owns.owns.stocks c.args.object exists) in
    rw (c.as_slice.ensures.value) (subst (λ (n : ℕ). EachBelow n c.args.trade.now.pairs.items) (sym many) pairs)

pub invariant_of-self : goal.invariant_of-self
invariant_of-self c =
    let ours = rw (← c.self.view_is) at c.requires.ours in
    let exists = rw (← c.self.view_is) at c.requires.exists in
    let decision = rw (← c.self.view_is) at c.requires.ready.decision in
    let on = c.requires.ready.on in
    let root = c.requires.ready.root in
    let found = root_read c.self.inside.layout c.self.inside.words.items _ c.self.invariant.history c.args.object _ c.self.invariant.lawful exists c.index-found.ensures in
    let seat : view_of c.decide.new.seat ≡ record (view_of c.index_mut-2.result.now) { attempt = None; own = traded_own (c.index-found.result.now == c.requires.ready.attempt.expected) (view_of c.index_mut-2.result.now).own c.requires.ready.attempt.object c.args.trade.now.pairs.items } =
    c.decide.ensures ∙ (λ k. record (view_of c.index_mut-2.result.now) { attempt = None; own = traded_own (c.index-found.result.now == (sym root k)) (view_of c.index_mut-2.result.now).own (sym on k) (c.as_slice.ensures.value k) }) in
    rw (c.exchange.ensures, ← on, ← root) (decided_from c.self.inside.layout c.self.inside.words.items c.self.inside.seats.items c.self.inside.counts c.args.seat.now ours.there c.self.invariant c.decide.new.seat c.index_mut-2.result.now c.index_mut-2.ensures.value
    c.requires.ready.attempt c.args.new c.args.trade.now.pairs.items c.index-found.result.now decision (found ∙ ap (root_of c.self.inside.words.items) (sym on)) seat).0

pub returns-clause-event : goal.returns-clause-event
returns-clause-event c attempt open_is =
    let ours = rw (← c.self.view_is) at c.requires.ours in
    let exists = rw (← c.self.view_is) at c.requires.exists in
    let decision = rw (← c.self.view_is) at c.requires.ready.decision in
    let on = c.requires.ready.on in
    let root = c.requires.ready.root in
    let found = root_read c.self.inside.layout c.self.inside.words.items _ c.self.invariant.history c.args.object _ c.self.invariant.lawful exists c.index-found.ensures in
    let seat : view_of c.decide.new.seat ≡ record (view_of c.index_mut-2.result.now) { attempt = None; own = traded_own (c.index-found.result.now == c.requires.ready.attempt.expected) (view_of c.index_mut-2.result.now).own c.requires.ready.attempt.object c.args.trade.now.pairs.items } =
    c.decide.ensures ∙ (λ k. record (view_of c.index_mut-2.result.now) { attempt = None; own = traded_own (c.index-found.result.now == (sym root k)) (view_of c.index_mut-2.result.now).own (sym on k) (c.as_slice.ensures.value k) }) in
    let one : c.requires.ready.attempt ≡ attempt = same_Some c.requires.ready.attempt attempt (sym c.requires.ready.decision.is_open ∙ open_is) in
    rw (← c.self.view_is, c.exchange.ensures, ← one, ← on, ← root) (decided_from c.self.inside.layout c.self.inside.words.items c.self.inside.seats.items c.self.inside.counts c.args.seat.now ours.there c.self.invariant c.decide.new.seat c.index_mut-2.result.now c.index_mut-2.ensures.value
    c.requires.ready.attempt c.args.new c.args.trade.now.pairs.items c.index-found.result.now decision (found ∙ ap (root_of c.self.inside.words.items) (sym on)) seat).1

pub returns-clause-port : goal.returns-clause-port
returns-clause-port c =
    let ours = rw (← c.self.view_is) at c.requires.ours in
    rw (← c.self.view_is) (seats_stay c.self.inside.layout c.self.inside.words.items c.self.inside.seats.items c.self.inside.counts c.args.seat.now ours.there (set c.self.inside.words.items (c.args.object + 1) c.exchange.result) (one_exchange c.self.inside.counts) c.decide.new.seat (invariant_of-self c) (omega arith, omega arith, omega arith))
