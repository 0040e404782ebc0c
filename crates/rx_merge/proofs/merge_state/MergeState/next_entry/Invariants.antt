use Rattle.std.proofs.Common.{◌≡◌, reverse}
use Rattle.std.specs.Prelude.{None}
use Rattle.rx_merge.specs.Merged.{first_below, ready_of, lists_of}
use Rattle.rx_merge.proofs.merge_state.MergeState.next_entry.Given as goal

abbrev pub invariant-loop-caller : goal.invariant-loop-caller
invariant-loop-caller l = first_below (ready_of (lists_of l.lists) (reverse l.self.order.items)) l.caller ≡ None
