use Rattle.std.proofs.Common.{ℕ, ◌≡◌, ◌+◌, ◌<◌, ◌≤◌, length, slice_index}
use Rattle.rx_merge.specs.MergeState.{sum_below}
use Rattle.rx_merge.proofs.counts.sum_up.Given as goal

abbrev pub invariant-loop-object : goal.invariant-loop-object
invariant-loop-object l = record {
  many : length l.counts.items ≡ length l.fn.counts.items;
  whole : l.whole ≡ sum_below (λ before. slice_index l.fn.counts.items before + 1) l.object;
  done : (object : ℕ) → object < l.object → slice_index l.counts.items object ≡ sum_below (λ before. slice_index l.fn.counts.items before + 1) object;
  left : (object : ℕ) → l.object ≤ object → slice_index l.counts.items object ≡ slice_index l.fn.counts.items object;
}
