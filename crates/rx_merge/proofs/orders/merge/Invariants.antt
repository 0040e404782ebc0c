use Rattle.std.proofs.Common.{◌≡◌, ◌≤◌, length, reverse}
use Rattle.std.specs.Prelude.{vec_capacity}
use Rattle.rx_merge.specs.Merged.{lists_of, merged_to}
use Rattle.rx_merge.specs.MergeState.{IsMergeState}
use Rattle.rx_merge.proofs.orders.merge.Given as goal

abbrev pub invariant-loop : goal.invariant-loop
invariant-loop l = record {
  order : l.state.order.items ≡ reverse (merged_to (lists_of l.lists) l.counter);
  room : l.count ≤ vec_capacity l.state.order;
  tags : length l.state.tags.items ≡ l.objects;
  state : IsMergeState (lists_of l.lists) (merged_to (lists_of l.lists) l.counter) l.state.places.items l.state.tags.items l.state.starts.items l.state.waiting.items l.state.ended;
}
