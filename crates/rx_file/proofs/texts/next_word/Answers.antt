use Rattle.std.proofs.Common.{ℕ, ◌<◌, ◌∙◌, sym, drop, length, arith, length-drop}
use Rattle.std.proofs.lemmas.List.{take_rest}
use Rattle.rx_file.proofs.Words.{words_split}
use Rattle.rx_file.proofs.texts.next_word.Goals as goal

pub returns-clause-words : goal.returns-clause-words
returns-clause-words c =
    let place = simp take_rest at c.word_len-end.ensures.place in
    let bound = simp take_rest at c.word_len-end.ensures.bound in
    let within : c.spaces-start.result < length c.args.text.now = omega arith in
    let no_space = c.spaces-start.ensures.no_space within in
    let some : 0 < c.word_len-end.result = omega arith in
    simp take_rest (sym c.spaces-start.ensures.same_words ∙ words_split (drop c.spaces-start.result c.args.text.now) c.word_len-end.result place bound some)

pub returns-clause-shorter : goal.returns-clause-shorter
returns-clause-shorter c =
    let place = simp take_rest at c.word_len-end.ensures.place in
    let within : c.spaces-start.result < length c.args.text.now = omega arith in
    let no_space = c.spaces-start.ensures.no_space within in
    let some : 0 < c.word_len-end.result = omega arith in
    simp take_rest (omega (arith, length-drop {A = ℕ}))
