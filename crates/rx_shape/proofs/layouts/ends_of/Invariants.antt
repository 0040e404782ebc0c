use Rattle.rx_shape.proofs.Ends.{Grown}
use Rattle.rx_shape.proofs.layouts.ends_of.Given as goal

abbrev pub invariant-loop-object : goal.invariant-loop-object
invariant-loop-object l = Grown l.seats l.parts l.object l.place l.ends.items
