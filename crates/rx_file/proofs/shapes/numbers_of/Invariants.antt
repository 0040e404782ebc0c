use Rattle.std.proofs.Common.{◌≡◌, length}
use Rattle.rx_file.specs.Texts.{words_of}
use Rattle.rx_file.specs.Shapes.{numbers_of}
use Rattle.rx_file.proofs.Numbers.{with_before}
use Rattle.rx_file.proofs.shapes.numbers_of.Given as goal

abbrev pub invariant-loop-word : goal.invariant-loop-word
invariant-loop-word l = numbers_of (words_of l.initial.text) ≡ with_before l.numbers.items (numbers_of (words_of l.text))

abbrev pub decreases-loop-word : goal.decreases-loop-word
decreases-loop-word l = length l.text
