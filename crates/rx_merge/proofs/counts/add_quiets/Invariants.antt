use Rattle.std.proofs.Common.{ℕ, ◌≡◌, ◌+◌, count_by, length, take}
use Rattle.rx_merge.specs.Merged.{is_quiet_at, list_at, lists_of}
use Rattle.rx_merge.specs.MergeState.{AreCounts}
use Rattle.rx_merge.proofs.counts.add_quiets.Given as goal

abbrev pub invariant-loop-entry : goal.invariant-loop-entry
invariant-loop-entry l = record {
  many : length l.counts.items ≡ length l.fn.counts.items;
  counts : (count : ℕ → ℕ → ℕ) → AreCounts (lists_of l.lists) (length l.starts) count l.fn.counts.items
      → AreCounts (lists_of l.lists) (length l.starts) (λ object tag. count object tag + count_by (is_quiet_at object tag) (take l.entry-index (list_at (lists_of l.lists) l.caller))) l.counts.items;
}
