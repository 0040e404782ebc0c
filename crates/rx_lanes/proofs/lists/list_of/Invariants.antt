use Rattle.std.proofs.Common.{◌≡◌, ◌≤◌, take, length, vec_capacity}
use Rattle.rx_lanes.specs.Lists.{IsTold}
use Rattle.rx_set.specs.Operations.{operations_of, repeated}
use Rattle.rx_lanes.proofs.lists.list_of.Given as goal

abbrev pub invariant-loop : goal.invariant-loop
invariant-loop l = record {
  many : length l.list.items ≡ length (repeated l.counter (operations_of l.items));
  room : length l.answers ≤ vec_capacity l.list;
  told : IsTold l.caller (repeated l.counter (operations_of l.items)) (take (length l.list.items) l.answers) l.list.items;
}
