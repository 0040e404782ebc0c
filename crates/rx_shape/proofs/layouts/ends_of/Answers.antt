use Rattle.std.proofs.Common.{arith}
use Rattle.rx_shape.proofs.Numbering.{end_few}
use Rattle.rx_shape.proofs.Ends.{next_end}
use Rattle.rx_shape.proofs.layouts.ends_of.Goals as goal

pub overflow_add-place-in-loop-object : goal.overflow_add-place-in-loop-object
overflow_add-place-in-loop-object c =
    let place = c.loop-object.invariant.place in
    let few = end_few c.args.seats c.args.parts.now c.loop-object.object c.requires.few c.requires.parts c.requires.seats in omega (arith, c.places_in-place.ensures.bound)

pub loop-object-preserved : goal.loop-object-preserved
loop-object-preserved c = rw (c.push-in-loop-object.ensures.items)
    (next_end c.args.seats c.args.parts.now c.loop-object.object c.loop-object.place c.places_in-place.result c.loop-object.ends.items _ c.loop-object-test.true c.places_in-place.ensures.value c.loop-object.invariant)
