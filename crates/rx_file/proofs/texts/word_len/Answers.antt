use Rattle.std.proofs.Common.{sym, arith}
use Rattle.std.proofs.lemmas.Bool.Decides.{nat_tests}
use Rattle.std.proofs.lemmas.List.Sums.{position_or_len_is}
use Rattle.rx_file.specs.Texts.{is_space}
use Rattle.rx_file.proofs.texts.word_len.Goals as goal

pub returns-else-text-at-ne32-clause-place : goal.returns-else-text-at-ne32-clause-place
returns-else-text-at-ne32-clause-place c =
    sym (position_or_len_is is_space c.args.text.now c.loop-at.at 0 c.loop-at.invariant.within c.loop-at.invariant.no_space (λ _. grind (arith, nat_tests)))

pub returns-after-loop-at-clause-place : goal.returns-after-loop-at-clause-place
returns-after-loop-at-clause-place c =
    sym (position_or_len_is is_space c.args.text.now c.loop-at.at 0 c.loop-at.invariant.within c.loop-at.invariant.no_space (λ h. absurd (omega arith)))
