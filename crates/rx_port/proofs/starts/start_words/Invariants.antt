use Rattle.std.proofs.Common.{◌≡◌, ◌<◌, ℕ, length}
use Rattle.std.specs.Prelude.{slice_index}
use Rattle.rx_shape.specs.Start.{start_word}
use Rattle.rx_port.proofs.starts.start_words.Given as goal

abbrev pub invariant-loop-word : goal.invariant-loop-word
invariant-loop-word l = record {
  many : length l.words.items ≡ l.word;
  each : (k : ℕ) → k < l.word → slice_index l.words.items k ≡ start_word l.layout k;
}
