-- The numbers of a call, one after the other.
use Rattle.std.proofs.Common.{◌≡◌, ◌<◌, ℕ, List, [], ◌∷◌, ◌++◌, length, refl, arith, Option, Some, None, option_map, append_assoc, length-append}
use Rattle.std.specs.Option.{option_and_then}
use Rattle.std.proofs.lemmas.Bool.Decides.{nat_tests}
use Rattle.rx_file.specs.declared.shapes.Verb.{Verb}
use Rattle.rx_file.specs.declared.shapes.Verb.TheVariants.{Get, Set, Add, Swap, Put, Take, Insert, Remove, Has, Read, Shift, Multi}
use Rattle.rx_file.specs.Texts.{word_number}
use Rattle.rx_file.specs.Shapes.{row_count, call_of, with_number, numbers_of}
use Rattle.rx_file.specs.Gives.{HaveNoCall}

-- these numbers stand before those of a text
abbrev pub with_before : List ℕ → Option (List ℕ) → Option (List ℕ)
with_before before numbers = option_map (λ rest. before ++ rest) numbers

more_before : (before : List ℕ) (number : ℕ) (rest : Option (List ℕ))
    → with_before before (with_number (Some number) rest) ≡ with_before (before ++ number ∷ []) rest
more_before before number None = refl
more_before before number (Some rest) = rw append_assoc refl

-- one more number
pub number_next : (all words : List (List ℕ)) (word : List ℕ) (rest : List (List ℕ)) (before : List ℕ) (number : ℕ)
    → numbers_of all ≡ with_before before (numbers_of words) → words ≡ word ∷ rest → word_number word ≡ Some number
    → numbers_of all ≡ with_before (before ++ number ∷ []) (numbers_of rest)
number_next all words word rest before number e split is = rw (e, split, is) (more_before before number (numbers_of rest))

-- a word that is no number
pub number_none : (all words : List (List ℕ)) (word : List ℕ) (rest : List (List ℕ)) (before : List ℕ)
    → numbers_of all ≡ with_before before (numbers_of words) → words ≡ word ∷ rest → word_number word ≡ None → HaveNoCall all
number_none all words word rest before e split is verb = rw (e, split, is) refl

-- no call has more than 12 numbers
no_rows : (numbers : ℕ) → 12 < numbers → row_count numbers ≡ None
no_rows numbers many = grind (arith, nat_tests)

four : (verb : Verb) (a b c d : ℕ) (rest : List ℕ) → 8 < length rest → call_of verb (a ∷ b ∷ c ∷ d ∷ rest) ≡ None
four Get a b c d rest many = refl
four Set a b c d rest many = refl
four Add a b c d rest many = refl
four Swap a b c d rest many = refl
four Put a b c d rest many = refl
four Take a b c d rest many = refl
four Insert a b c d rest many = refl
four Remove a b c d rest many = refl
four Has a b c d rest many = refl
four Read a b c d rest many = refl
four Shift a b c d rest many = refl
four Multi a b c d rest many = rw (no_rows (length (a ∷ b ∷ c ∷ d ∷ rest)) (omega arith)) refl

long : (verb : Verb) (numbers : List ℕ) → 12 < length numbers → call_of verb numbers ≡ None
long verb [] many = absurd (omega arith)
long verb (a ∷ []) many = absurd (omega arith)
long verb (a ∷ b ∷ []) many = absurd (omega arith)
long verb (a ∷ b ∷ c ∷ []) many = absurd (omega arith)
long verb (a ∷ b ∷ c ∷ d ∷ rest) many = four verb a b c d rest (omega arith)

too_many : (verb : Verb) (before : List ℕ) (number : Option ℕ) (rest : Option (List ℕ)) → length before ≡ 12
    → option_and_then (call_of verb) (with_before before (with_number number rest)) ≡ None
too_many verb before None rest full = refl
too_many verb before (Some number) None full = refl
too_many verb before (Some number) (Some rest) full = long verb (before ++ number ∷ rest) (omega (arith, length-append {A = ℕ}))

-- a word after as many numbers as a call may have
pub number_full : (all words : List (List ℕ)) (word : List ℕ) (rest : List (List ℕ)) (before : List ℕ)
    → numbers_of all ≡ with_before before (numbers_of words) → words ≡ word ∷ rest → length before ≡ 12 → HaveNoCall all
number_full all words word rest before e split full verb = rw (e, split) (too_many verb before (word_number word) (numbers_of rest) full)
