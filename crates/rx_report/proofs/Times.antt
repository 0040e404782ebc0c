-- The text of a time that is kept in front of a line.
use Rattle.std.proofs.Common.{◌≡◌, ℕ, ◌+◌, ◌-◌, ◌*◌, ◌/◌, ◌%◌, ◌^◌, ◌<◌, ◌≤◌, List, ◌++◌, length, take, refl, ap, sym, ◌∙◌, arith, length-take-le, take-take, take_at}
use Rattle.std.proofs.Math.Decide.{dec_lt}
use Rattle.std.proofs.lemmas.Fmt.{length-decimal-le}
use Rattle.std.specs.Fmt.{decimal}
use Rattle.rx_text.specs.Places.{IsPlaced, four_digits}
use Rattle.rx_text.proofs.Digits.{decimal_by_four, long_by_four, long_most}
use Rattle.rx_report.specs.Buffers.{KeepsTime}

-- so many bytes at the front are the text of this time, and this is its base
pub record IsTime (bytes : List ℕ) (digits time base : ℕ) : Type 0 where
  pub few : digits ≤ 20
  pub text : take digits bytes ≡ decimal time
  pub base_is : base ≡ time / 10000 * 10000

-- a time of five digits or more is 10,000 or more
many_digits : (time : ℕ) → time < 2 ^ 64 → 4 < length (decimal time) → 10000 ≤ time
many_digits time fits many =
    elim (dec_lt time 10000) [
      | yes small ↦ let few = length-decimal-le 4 time (omega arith) (omega arith) fits in absurd (omega (arith, many, few))
      | no large ↦ omega (arith, large)
    ]

-- the last four digits are written anew
pub counted_up : {bytes after : List ℕ} {digits old time base end : ℕ} → old < 2 ^ 64 → time < 2 ^ 64 → digits ≤ length bytes → 4 < digits → take digits bytes ≡ decimal old → base ≡ old / 10000 * 10000
    → base ≤ time → time - base < 10000 → IsPlaced bytes after (digits - 4) (four_digits (time - base)) end → IsTime after end time base
counted_up {bytes} {after} {digits} {old} {time} {base} {end} old_fits fits inside many text base_is reached near placed =
    let long : digits ≡ length (decimal old) = sym (length-take-le digits bytes inside) ∙ ap length text in
    let large = many_digits old old_fits (omega (arith, long, many)) in
    let rest : digits ≡ length (decimal (old / 10000)) + 4 = long ∙ long_by_four old large old_fits in
    let same : old / 10000 ≡ time / 10000 = omega (arith, base_is, reached, near) in
    let last : time - base ≡ time % 10000 = omega (arith, base_is, reached, near) in
    let at : length (decimal (old / 10000)) ≡ digits - 4 = omega (arith, rest) in
    let front : take (digits - 4) bytes ≡ decimal (old / 10000) =
    sym (take-take (digits - 4) digits bytes (omega arith)) ∙ ap (take (digits - 4)) (text ∙ decimal_by_four old large old_fits)
    ∙ take_at (decimal (old / 10000)) (four_digits (old % 10000)) (digits - 4) at in
    let whole : take end after ≡ decimal time =
    placed.front ∙ ap (λ l. l ++ four_digits (time - base)) (front ∙ ap decimal same) ∙ ap (λ n. decimal (time / 10000) ++ four_digits n) last
    ∙ sym (decimal_by_four time (omega (arith, base_is, reached, large)) fits) in
    let ends : length (decimal time) ≡ length (decimal (time / 10000)) + 4 = long_by_four time (omega (arith, base_is, reached, large)) fits in
    record {
      few = omega (arith, placed.moved, rest, ap (λ n. length (decimal n)) same, ends, long_most time fits);
      text = whole;
      base_is = base_is ∙ ap (λ n. n * 10000) same;
    }

-- all digits are written anew
pub begun : {bytes after : List ℕ} {time end : ℕ} → time < 2 ^ 64 → IsPlaced bytes after 0 (decimal time) end → IsTime after end time (time / 10000 * 10000)
begun {bytes} {after} {time} {end} fits placed = record {
  few = omega (arith, placed.moved, long_most time fits);
  text = placed.front;
  base_is = refl;
}

-- then the buffer keeps the time
pub keeps_time : {bytes : List ℕ} {digits time base : ℕ} → IsTime bytes digits time base → KeepsTime bytes digits digits time base
keeps_time is = record { within = omega arith; text = λ some. is.text; base_is = is.base_is }

-- and its text is short
pub time_short : {bytes : List ℕ} {digits time base : ℕ} → digits ≤ length bytes → IsTime bytes digits time base → length (take digits bytes) ≤ 20
time_short {bytes} {digits} inside is = omega (arith, length-take-le digits bytes inside, is.few)
