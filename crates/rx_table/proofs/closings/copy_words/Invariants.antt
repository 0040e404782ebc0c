use Rattle.std.specs.Prelude.{ℕ, ◌≡◌, ◌<◌, length, slice_index}
use Rattle.std.specs.Mem.Slots.{slots_items}
use Rattle.rx_table.proofs.closings.copy_words.Given as goal

abbrev pub invariant-loop-word : goal.invariant-loop-word
invariant-loop-word l = record {
  many : length l.words.items ≡ length (slots_items l.closed.words);
  done : (k : ℕ) → k < l.word → slice_index l.words.items k ≡ slice_index (slots_items l.closed.words) k;
}
