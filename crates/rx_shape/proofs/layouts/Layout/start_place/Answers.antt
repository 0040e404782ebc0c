use Rattle.std.proofs.Common.{◌+◌, length, ap, ◌∙◌, arith}
use Rattle.rx_shape.specs.Layout.{Layout, place_after}
use Rattle.rx_shape.proofs.Numbering.{place_few, sum_more, words_are}
use Rattle.rx_shape.proofs.Starts.{found_value}
use Rattle.rx_shape.proofs.layouts.Layout.start_place.Goals as goal

pub overflow_add-first-in-loop-object : goal.overflow_add-first-in-loop-object
overflow_add-first-in-loop-object c =
    let first = rw (← c.self.view_is) at c.loop-object.invariant.first in
    let few = place_few (record { parts = c.self.inside.parts.items; seats = c.self.inside.seats; first = c.self.inside.first }) c.loop-object.object c.self.invariant.0 in omega (arith, c.places_in-count.ensures.bound)

pub start_value-requires-clause-place : goal.start_value-requires-clause-place
start_value-requires-clause-place c =
    let words = rw (← c.self.view_is) at c.requires.words in
    let layout : Layout = record { parts = c.self.inside.parts.items; seats = c.self.inside.seats; first = c.self.inside.first } in
    let few = place_few layout (length c.self.inside.parts.items) c.self.invariant.0 in
    let all = words_are layout in omega arith

pub returns-then-place-first : goal.returns-then-place-first
returns-then-place-first c = rw (← c.self.view_is)
    (let first = rw (← c.self.view_is) at c.loop-object.invariant.first in
    let from = rw (← c.self.view_is) at c.loop-object.invariant.from in
    found_value (record { parts = c.self.inside.parts.items; seats = c.self.inside.seats; first = c.self.inside.first }) c.loop-object.object c.args.place c.loop-object.first c.places_in-count.result c.start_value.result c.index-part.result.now
    (omega arith) c.index-part.ensures first from c.places_in-count.ensures.value c.if-place-first.true c.start_value.ensures)

pub loop-object-preserved : goal.loop-object-preserved
loop-object-preserved c = rw (← c.self.view_is)
    (let first = rw (← c.self.view_is) at c.loop-object.invariant.first in
    let more = ap (λ n. n + c.places_in-count.result) first ∙ ap (λ n. place_after (record { parts = c.self.inside.parts.items; seats = c.self.inside.seats; first = c.self.inside.first }) c.loop-object.object + n) c.places_in-count.ensures.value
    ∙ sum_more (record { parts = c.self.inside.parts.items; seats = c.self.inside.seats; first = c.self.inside.first }) c.loop-object.object c.index-part.result.now (omega arith) c.index-part.ensures in
    record { first = more; from = omega arith })
