use Rattle.std.proofs.Common.{ℕ, length, ◌-◌, ◌≡◌, ◌≤◌, ◌<◌, get_or, false}
use Rattle.rx_file.specs.Texts.{is_space}
use Rattle.rx_file.proofs.texts.word_len.Given as goal

abbrev pub invariant-loop-at : goal.invariant-loop-at
invariant-loop-at l = record {
  within : l.at ≤ length l.text;
  no_space : (k : ℕ) → k < l.at → is_space (get_or l.text k 0) ≡ false;
}

abbrev pub decreases-loop-at : goal.decreases-loop-at
decreases-loop-at l = length l.text - l.at
