use Rattle.std.proofs.Common.{◌≡◌, ◌≤◌}
use Rattle.rx_shape.specs.Layout.{place_after}
use Rattle.rx_shape.proofs.layouts.Layout.start_place.Given as goal

abbrev pub invariant-loop-object : goal.invariant-loop-object
invariant-loop-object l = record {
  first : l.first ≡ place_after l.self l.object;
  from : place_after l.self l.object ≤ l.place;
}
