use Rattle.std.proofs.Common.{◌≡◌, length, arith}
use Rattle.std.proofs.lemmas.Bool.Decides.{nat_tests}
use Rattle.rx_file.specs.Texts.{words_of}
use Rattle.rx_file.proofs.Numbers.{number_full}
use Rattle.rx_file.proofs.shapes.numbers_of.Goals as goal

pub returns-then-is_full : goal.returns-then-is_full
returns-then-is_full c =
    let full : length c.loop-word.numbers.items ≡ 12 = grind (arith, nat_tests) in
    number_full (words_of c.args.text.now) (words_of c.loop-word.text.now) _ _ _ c.loop-word.invariant c.in-Some.ensures.words full
