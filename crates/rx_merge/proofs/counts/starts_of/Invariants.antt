use Rattle.std.proofs.Common.{ℕ, ◌≡◌, ◌<◌, count_by, length, slice_index}
use Rattle.rx_merge.specs.Merged.{list_at, lists_of}
use Rattle.rx_merge.specs.MergeState.{is_loud_on, sum_below}
use Rattle.rx_merge.proofs.counts.starts_of.Given as goal

abbrev pub invariant-loop-list : goal.invariant-loop-list
invariant-loop-list l = record {
  many : length l.starts.items ≡ l.objects;
  counts : (object : ℕ) → object < l.objects → slice_index l.starts.items object ≡ sum_below (λ caller. count_by (is_loud_on object) (list_at (lists_of l.lists) caller)) l.list-index;
}
