-- The digits of a number, from the first on.
use Rattle.std.proofs.Common.{◌≡◌, ℕ, zero, suc, ◌+◌, ◌-◌, ◌*◌, ◌/◌, ◌%◌, ◌^◌, ◌<◌, ◌≤◌, Bool, true, ◌&&◌, T, eqb, ◌++◌, length, get_or, ap, ◌∙◌, inl, inr, arith, eq-zero-or-pos, eqb→eq, append_assoc, length-append}
use Rattle.std.proofs.lemmas.Fmt.{decimal_digit, decimal_step, length-decimal-le}
use Rattle.std.specs.Fmt.{decimal}
use lib.Ieee.Fits.{and_l, and_r}
use Rattle.rx_text.specs.Places.{eight_digits, four_digits, two_digits}
use Rattle.rx_text.specs.declared.numbers.TheConstants.{PAIRS}

-- the table has the digits of each number below this one
abbrev has_pairs : ℕ → Bool
has_pairs zero = true
has_pairs (suc n) = (eqb (get_or PAIRS (n * 2) 0) (48 + n / 10) && eqb (get_or PAIRS (n * 2 + 1) 0) (48 + n % 10)) && has_pairs n

pair_below : (most n : ℕ) → T (has_pairs most) → n < most → (get_or PAIRS (n * 2) 0 ≡ 48 + n / 10) × (get_or PAIRS (n * 2 + 1) 0 ≡ 48 + n % 10)
pair_below zero n table few = absurd (omega arith)
pair_below (suc most) n table few =
    elim (eq-zero-or-pos (most - n)) [
      | inl none ↦
          let last : n ≡ most = omega arith in
          let both = and_l _ (has_pairs most) table in
          rw last (eqb→eq _ _ (and_l _ _ both), eqb→eq _ _ (and_r _ _ both))
      | inr more ↦ pair_below most n (and_r _ (has_pairs most) table) (omega arith)
    ]

pub pair_of : (n : ℕ) → n < 100 → (get_or PAIRS (n * 2) 0 ≡ 48 + n / 10) × (get_or PAIRS (n * 2 + 1) 0 ≡ 48 + n % 10)
pair_of n few = pair_below 100 n tt few

pub decimal_two : (n : ℕ) → 10 ≤ n → n < 100 → decimal n ≡ two_digits n
decimal_two n many few = rw (decimal_step n many (omega arith), decimal_digit (n / 10) (omega arith))

-- all but the last two digits, and those two
pub decimal_by_two : (n : ℕ) → 100 ≤ n → n < 2 ^ 64 → decimal n ≡ decimal (n / 100) ++ two_digits (n % 100)
decimal_by_two n many few =
    let a : n / 10 / 10 ≡ n / 100 = omega arith in
    let b : n / 10 % 10 ≡ n % 100 / 10 = omega arith in
    let c : n % 10 ≡ n % 100 % 10 = omega arith in
    rw (decimal_step n (omega arith) few, decimal_step (n / 10) (omega arith) (omega arith), append_assoc, a, b, ← c)

-- all but the last four digits, and those four
pub decimal_by_four : (n : ℕ) → 10000 ≤ n → n < 2 ^ 64 → decimal n ≡ decimal (n / 10000) ++ four_digits (n % 10000)
decimal_by_four n many few =
    let a : n / 100 / 100 ≡ n / 10000 = omega arith in
    let b : n / 100 % 100 ≡ n % 10000 / 100 = omega arith in
    let c : n % 100 ≡ n % 10000 % 100 = omega arith in
    rw (decimal_by_two n (omega arith) few, decimal_by_two (n / 100) (omega arith) (omega arith), append_assoc, a, b, ← c)

-- all but the last eight digits, and those eight
pub decimal_by_eight : (n : ℕ) → 100000000 ≤ n → n < 2 ^ 64 → decimal n ≡ decimal (n / 100000000) ++ eight_digits (n % 100000000)
decimal_by_eight n many few =
    let a : n / 10000 / 10000 ≡ n / 100000000 = omega arith in
    let b : n / 10000 % 10000 ≡ n % 100000000 / 10000 = omega arith in
    let c : n % 10000 ≡ n % 100000000 % 10000 = omega arith in
    rw (decimal_by_four n (omega arith) few, decimal_by_four (n / 10000) (omega arith) (omega arith), append_assoc (decimal (n / 10000 / 10000)) (four_digits (n / 10000 % 10000)) (four_digits (n % 10000)), a, b, ← c)

pub long_by_two : (n : ℕ) → 100 ≤ n → n < 2 ^ 64 → length (decimal n) ≡ length (decimal (n / 100)) + 2
long_by_two n many few = ap length (decimal_by_two n many few) ∙ length-append _ _

pub long_by_four : (n : ℕ) → 10000 ≤ n → n < 2 ^ 64 → length (decimal n) ≡ length (decimal (n / 10000)) + 4
long_by_four n many few = ap length (decimal_by_four n many few) ∙ length-append _ _

pub long_by_eight : (n : ℕ) → 100000000 ≤ n → n < 2 ^ 64 → length (decimal n) ≡ length (decimal (n / 100000000)) + 8
long_by_eight n many few = ap length (decimal_by_eight n many few) ∙ length-append _ _

pub long_one : (n : ℕ) → n < 10 → length (decimal n) ≡ 1
long_one n few = ap length (decimal_digit n few)

pub long_two : (n : ℕ) → 10 ≤ n → n < 100 → length (decimal n) ≡ 2
long_two n many few = ap length (decimal_two n many few)

-- a number of 64 bits has at most 20 digits
pub long_most : (n : ℕ) → n < 2 ^ 64 → length (decimal n) ≤ 20
long_most n fits = length-decimal-le 20 n (omega arith) (omega arith) fits

-- a number of 32 bits has at most 10 digits
pub long_short : (n : ℕ) → n < 2 ^ 32 → length (decimal n) ≤ 10
long_short n fits = length-decimal-le 10 n (omega arith) (omega arith) (omega arith)
