use Rattle.std.proofs.Common.{◌≡◌, ◌≤◌, length, take}
use Rattle.rx_set.specs.Operations.{operations_of}
use Rattle.rx_set.proofs.items.Body.operations.Given as goal

abbrev pub invariant-loop-item : goal.invariant-loop-item
invariant-loop-item l = record {
  count : l.count ≡ length (operations_of (take l.item-index l.self));
  few : l.count ≤ l.item-index;
}
