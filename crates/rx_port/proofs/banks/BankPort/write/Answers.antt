use Rattle.std.proofs.Common.{ℕ, ◌≡◌, ◌<◌, length, set, sym, ap, ◌∙◌, subst, arith}
use Rattle.std.specs.Prelude.{slice_index}
use Rattle.std.proofs.lemmas.Option.{same_Some}
use Rattle.rx_seq.specs.History.{part_at}
use Rattle.rx_shape.specs.Forms.{stock_size}
use Rattle.rx_port.specs.declared.views.View.{View}
use Rattle.rx_port.specs.Core.{own_of, one_store}
use Rattle.rx_port.specs.Plain.{view_at, plain_core}
use Rattle.rx_port.proofs.BankSteps.{wrote_from, state_is, own_in_words, seats_stay}
use Rattle.rx_port.proofs.banks.BankPort.write.Goals as goal

pub place_at-place-requires-clause-number : goal.place_at-place-requires-clause-number
place_at-place-requires-clause-number c =
    let ours = rw (← c.self.view_is) at c.requires.ours in
    let exists = rw (← c.self.view_is) at c.requires.exists in
    let below = rw (← c.self.view_is) at c.requires.open.below in
    let same = state_is c.self.inside.layout c.self.inside.words.items c.self.inside.seats.items c.self.inside.counts c.args.seat.now ours.there c.index.result.now c.index.ensures in
    subst (λ (v : View). c.args.own < length (own_of v c.args.object)) (sym same)
    (own_in_words c.self.inside.layout (view_at (plain_core c.self.inside.words.items c.self.inside.seats.items c.self.inside.counts) c.args.seat.now) c.args.object c.args.own ours.owns exists below).0

pub index_mut-requires : goal.index_mut-requires
index_mut-requires c =
    let ours = rw (← c.self.view_is) at c.requires.ours in
    let exists = rw (← c.self.view_is) at c.requires.exists in
    let below = rw (← c.self.view_is) at c.requires.open.below in
    let same = state_is c.self.inside.layout c.self.inside.words.items c.self.inside.seats.items c.self.inside.counts c.args.seat.now ours.there c.index.result.now c.index.ensures in
    let there = (own_in_words c.self.inside.layout (view_at (plain_core c.self.inside.words.items c.self.inside.seats.items c.self.inside.counts) c.args.seat.now) c.args.object c.args.own ours.owns exists below).1 in
    let place : c.place_at-place.result ≡ slice_index (own_of (view_at (plain_core c.self.inside.words.items c.self.inside.seats.items c.self.inside.counts) c.args.seat.now) c.args.object) c.args.own =
    c.place_at-place.ensures ∙ ap (λ (v : View). slice_index (own_of v c.args.object) c.args.own) same in
    let size = c.self.invariant.lawful.size in omega arith

pub invariant_of-self : goal.invariant_of-self
invariant_of-self c =
    let ours = rw (← c.self.view_is) at c.requires.ours in
    let below = rw (← c.self.view_is) at c.requires.open.below in
    let is = rw (← c.self.view_is) at c.requires.open.is in
    let on = c.requires.open.on in
    let same = state_is c.self.inside.layout c.self.inside.words.items c.self.inside.seats.items c.self.inside.counts c.args.seat.now ours.there c.index.result.now c.index.ensures in
    let place : c.place_at-place.result ≡ slice_index (own_of (view_at (plain_core c.self.inside.words.items c.self.inside.seats.items c.self.inside.counts) c.args.seat.now) c.requires.open.attempt.object) c.args.own =
    c.place_at-place.ensures ∙ ap (λ (v : View). slice_index (own_of v c.args.object) c.args.own) same
    ∙ ap (λ (n : ℕ). slice_index (own_of (view_at (plain_core c.self.inside.words.items c.self.inside.seats.items c.self.inside.counts) c.args.seat.now) n) c.args.own) (sym on) in
    (wrote_from c.self.inside.layout c.self.inside.words.items c.self.inside.seats.items c.self.inside.counts c.args.seat.now ours.there c.self.invariant c.write.new.seat c.index_mut-2.result.now c.index_mut-2.ensures.value
    c.requires.open.attempt c.args.own c.args.value c.place_at-place.result is (subst (λ (n : ℕ). c.args.own < stock_size (part_at c.self.inside.layout.parts n)) (sym on) below) c.requires.open.new place c.write.ensures).0

pub returns-clause-event : goal.returns-clause-event
returns-clause-event c attempt open_is =
    let ours = rw (← c.self.view_is) at c.requires.ours in
    let below = rw (← c.self.view_is) at c.requires.open.below in
    let is = rw (← c.self.view_is) at c.requires.open.is in
    let on = c.requires.open.on in
    let same = state_is c.self.inside.layout c.self.inside.words.items c.self.inside.seats.items c.self.inside.counts c.args.seat.now ours.there c.index.result.now c.index.ensures in
    let place : c.place_at-place.result ≡ slice_index (own_of (view_at (plain_core c.self.inside.words.items c.self.inside.seats.items c.self.inside.counts) c.args.seat.now) c.requires.open.attempt.object) c.args.own =
    c.place_at-place.ensures ∙ ap (λ (v : View). slice_index (own_of v c.args.object) c.args.own) same
    ∙ ap (λ (n : ℕ). slice_index (own_of (view_at (plain_core c.self.inside.words.items c.self.inside.seats.items c.self.inside.counts) c.args.seat.now) n) c.args.own) (sym on) in
    let one : c.requires.open.attempt ≡ attempt = same_Some c.requires.open.attempt attempt (sym c.requires.open.is ∙ open_is) in
    rw (← c.self.view_is, ← one) (wrote_from c.self.inside.layout c.self.inside.words.items c.self.inside.seats.items c.self.inside.counts c.args.seat.now ours.there c.self.invariant c.write.new.seat c.index_mut-2.result.now c.index_mut-2.ensures.value
    c.requires.open.attempt c.args.own c.args.value c.place_at-place.result is (subst (λ (n : ℕ). c.args.own < stock_size (part_at c.self.inside.layout.parts n)) (sym on) below) c.requires.open.new place c.write.ensures).1

pub returns-clause-port : goal.returns-clause-port
returns-clause-port c =
    let ours = rw (← c.self.view_is) at c.requires.ours in
    rw (← c.self.view_is) (seats_stay c.self.inside.layout c.self.inside.words.items c.self.inside.seats.items c.self.inside.counts c.args.seat.now ours.there (set c.self.inside.words.items c.place_at-place.result c.args.value) (one_store c.self.inside.counts) c.write.new.seat (invariant_of-self c) (omega arith, omega arith, omega arith))
