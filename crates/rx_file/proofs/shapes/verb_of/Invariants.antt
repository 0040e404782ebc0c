use Rattle.std.proofs.Common.{◌≡◌, drop}
use Rattle.std.specs.List.{find}
use Rattle.std.specs.Str.{bytes_eq}
use Rattle.rx_file.specs.Shapes.{word_of, verbs, verb_of}
use Rattle.rx_file.proofs.shapes.verb_of.Given as goal

abbrev pub invariant-loop-verb : goal.invariant-loop-verb
invariant-loop-verb l = verb_of l.word ≡ find (λ verb. bytes_eq (word_of verb) l.word) (drop l.verb-index verbs)
