use Rattle.std.proofs.Common.{ℕ, ◌≡◌, ◌+◌, ◌<◌, count_by, length, take, slice_index}
use Rattle.rx_merge.specs.MergeState.{is_loud_on}
use Rattle.rx_merge.proofs.counts.add_louds.Given as goal

abbrev pub invariant-loop-entry : goal.invariant-loop-entry
invariant-loop-entry l = record {
  many : length l.counts.items ≡ length l.fn.counts.items;
  counts : (object : ℕ) → object < length l.fn.counts.items → slice_index l.counts.items object ≡ slice_index l.fn.counts.items object + count_by (is_loud_on object) (take l.entry-index l.list);
}
