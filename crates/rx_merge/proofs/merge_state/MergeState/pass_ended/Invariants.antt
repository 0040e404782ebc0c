use Rattle.std.proofs.Common.{◌≡◌, reverse}
use Rattle.rx_merge.specs.Merged.{lists_of}
use Rattle.rx_merge.specs.MergeState.{IsMergeState}
use Rattle.rx_merge.proofs.merge_state.MergeState.pass_ended.Given as goal

abbrev pub invariant-loop-caller : goal.invariant-loop-caller
invariant-loop-caller l = record {
  at : l.self.ended ≡ l.caller;
  order : l.self.order ≡ l.fn.self.order;
  places : l.self.places ≡ l.fn.self.places;
  tags : l.self.tags ≡ l.fn.self.tags;
  starts : l.self.starts ≡ l.fn.self.starts;
  waiting : l.self.waiting ≡ l.fn.self.waiting;
  state : IsMergeState (lists_of l.lists) (reverse l.self.order.items) l.self.places.items l.self.tags.items l.self.starts.items l.self.waiting.items l.caller;
}
