-- Counts over the numbers below n.
use Rattle.std.proofs.Common.{ℕ, zero, suc, ◌≡◌, ◌≤◌, ◌<◌, ◌+◌, Bool, true, false, cond, [], ◌∷◌, length, get_or, map, refl, ◌∙◌, ap, arith, length-append, count_by, add-one}
use Rattle.std.proofs.lemmas.List.{get_or-map, get_or-append_right}
use Rattle.std.proofs.lemmas.List.Sums.{sum_by_push}
use Rattle.std.proofs.Math.ListN.{get_or-append}
use Rattle.rx_set.specs.System.{numbers}

pub length-numbers : (n : ℕ) → length (numbers n) ≡ n
length-numbers zero = refl
length-numbers (suc n) = omega (arith, length-append (numbers n) (n ∷ []), length-numbers n)

pub get_or-numbers : (n k : ℕ) → k < n → get_or (numbers n) k 0 ≡ k
get_or-numbers zero k h = absurd (omega arith)
get_or-numbers (suc n) k h = grind (arith, get_or-numbers n k, get_or-append, get_or-append_right, length-numbers n)

pub get_or-map_numbers : (f : ℕ → ℕ) (n k : ℕ) → k < n → get_or (map f (numbers n)) k 0 ≡ f k
get_or-map_numbers f n k h =
    let inside : k < length (numbers n) = omega (arith, length-numbers n) in
    get_or-map f (numbers n) k 0 0 inside ∙ ap f (get_or-numbers n k h)

pub count_more : (p : ℕ → Bool) (n : ℕ) → count_by p (numbers (suc n)) ≡ count_by p (numbers n) + cond (p n) 1 0
count_more p n = sum_by_push (λ x. cond (p x) 1 0) (numbers n) n

-- one step of a loop that counts
pub counted : (p : ℕ → Bool) (n count : ℕ) → count ≡ count_by p (numbers n) → p n ≡ true → count + 1 ≡ count_by p (numbers (n + 1))
counted p n count so_far is = rw (add-one n) (grind (arith, count_more p n))

pub passed : (p : ℕ → Bool) (n count : ℕ) → count ≡ count_by p (numbers n) → p n ≡ false → count ≡ count_by p (numbers (n + 1))
passed p n count so_far is = rw (add-one n) (grind (arith, count_more p n))

-- at most all of them
pub count_bound : (p : ℕ → Bool) (n : ℕ) → count_by p (numbers n) ≤ n
count_bound p zero = omega arith
count_bound p (suc n) = grind (arith, count_more p n, count_bound p n)

-- fewer than all where one is left out
pub count_without : (p : ℕ → Bool) (n x : ℕ) → x < n → p x ≡ false → count_by p (numbers n) < n
count_without p zero x h out = absurd (omega arith)
count_without p (suc n) x h out = grind (arith, count_more p n, count_bound p n, count_without p n x)

-- what counts all that another counts
pub counts_as_many : (p q : ℕ → Bool) (n : ℕ) → ((k : ℕ) → p k ≡ true → q k ≡ true) → count_by p (numbers n) ≤ count_by q (numbers n)
counts_as_many p q zero more = omega arith
counts_as_many p q (suc n) more = grind (arith, count_more p n, count_more q n, counts_as_many p q n more, more n)

-- and one more counts more
pub counts_above : (p q : ℕ → Bool) (n x : ℕ) → x < n → p x ≡ false → q x ≡ true → ((k : ℕ) → p k ≡ true → q k ≡ true) → count_by p (numbers n) < count_by q (numbers n)
counts_above p q zero x h out is more = absurd (omega arith)
counts_above p q (suc n) x h out is more =
    grind (arith, count_more p n, count_more q n, counts_as_many p q n more, counts_above p q n x, more n)
