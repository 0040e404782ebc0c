-- The words of a text, one after the other.
use Rattle.std.proofs.Common.{◌≡◌, ◌<◌, ◌≤◌, ℕ, suc, true, List, [], ◌∷◌, length, take, drop, refl, arith, inl, inr, drop-cons, add-one, length-take}
use Rattle.std.specs.List.{position_or_len}
use Rattle.std.proofs.lemmas.Bool.{cases_lt}
use Rattle.std.proofs.lemmas.Bool.Decides.{nat_tests}
use Rattle.std.proofs.lemmas.Grind.{common_steps}
use Rattle.std.proofs.lemmas.List.Sums.{fails_before_first, passes_at_first}
use Rattle.std.proofs.lemmas.List.Splits.{slice_split_first, slice_split_none, slice_split-cons_yes}
use Rattle.rx_file.specs.Texts.{is_space, is_some_word, words_of}

some_word : (word : List ℕ) → 0 < length word → is_some_word word ≡ true
some_word word some = grind (arith, nat_tests)

split_whole : (text : List ℕ) (end : ℕ) → end ≡ position_or_len is_space text → length text ≤ end → end ≤ length text → 0 < end
    → words_of text ≡ take end text ∷ words_of (drop end text)
split_whole text end place long within some =
    let whole = slice_split_none is_space text (λ k d h. fails_before_first is_space text k d (omega arith)) in
    let all : take end text ≡ text = grind (arith, common_steps) in
    let none : drop end text ≡ [] = grind (arith, common_steps) in
    rw (all, none, whole, some_word text (omega arith)) refl

split_before : (text : List ℕ) → position_or_len is_space text < length text → 0 < position_or_len is_space text
    → words_of text ≡ take (position_or_len is_space text) text ∷ words_of (drop (position_or_len is_space text) text)
split_before text short some =
    let end = position_or_len is_space text in
    let word : is_some_word (take end text) ≡ true = some_word (take end text) (omega (arith, length-take end text)) in
    rw (slice_split_first is_space text 0 short, drop-cons text end 0 short, slice_split-cons_yes is_space _ (drop (suc end) text) (passes_at_first is_space text 0 short), add-one end, word) refl

-- a text that begins with no space has the bytes before the first space as its first word
pub words_split : (text : List ℕ) (end : ℕ) → end ≡ position_or_len is_space text → end ≤ length text → 0 < end
    → words_of text ≡ take end text ∷ words_of (drop end text)
words_split text end place within some =
    elim (cases_lt end (length text)) [
      | inl short ↦ rw place (split_before text (rw place at short) (rw place at some))
      | inr long ↦ split_whole text end place long within some
    ]
