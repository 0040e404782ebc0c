-- Words and numbers as text.
use Rattle.std.specs.Prelude.{ℕ, ◌+◌, ◌-◌, ◌*◌, ◌==◌, ◌&&◌, nat_le, not, Bool, if◌then◌else◌, List, length, fold, filter, Option, Some, None}
use Rattle.std.specs.List.{list_all, slice_split}
use Rattle.rx_seq.specs.Table.{most_value}
use Rattle.rx_set.specs.Names.{is_digit}

-- the number that digits spell
abbrev pub with_digit : ℕ → ℕ → ℕ
with_digit number byte = 10 * number + (byte - 48)

abbrev pub value_of : List ℕ → ℕ
value_of digits = fold with_digit 0 digits

-- a word of 1 to so many digits
abbrev pub is_number : ℕ → List ℕ → Bool
is_number most word = nat_le 1 (length word) && nat_le (length word) most && list_all is_digit word

-- the number of a word of 1 to so many digits
abbrev pub number_of : ℕ → List ℕ → Option ℕ
number_of most word = if is_number most word then Some (value_of word) else None

-- a number from least to most
abbrev pub within : ℕ → ℕ → Option ℕ → Option ℕ
within least most (Some number) = if nat_le least number && nat_le number most then Some number else None
within least most None = None

-- the number of a number word: 1 to 10 digits whose value is at most 2 ^ 32 - 1
abbrev pub word_number : List ℕ → Option ℕ
word_number word = within 0 most_value (number_of 10 word)

-- a space, and a word that is not empty
abbrev pub is_space : ℕ → Bool
is_space byte = byte == 32

abbrev pub is_some_word : List ℕ → Bool
is_some_word word = not (length word == 0)

-- the words of a text: its maximal runs of bytes other than the space
abbrev pub words_of : List ℕ → List (List ℕ)
words_of text = filter is_some_word (slice_split is_space text)
