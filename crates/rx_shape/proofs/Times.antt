-- Places in lists, and runs of places.
use Rattle.std.proofs.Common.{◌≡◌, ◌≢◌, ℕ, zero, suc, ◌+◌, ◌<◌, ◌≤◌, List, [], ◌∷◌, ◌++◌, length, set, refl, sym, ap, ◌∙◌, subst, arith}
use Rattle.std.specs.Prelude.{◌==◌, slice_index}
use Rattle.std.proofs.lemmas.Bool.{cond-true, cond-false, eq-eqb, ne_eqb}
use mathlib.Core.Option.{some, some-ne-none, some-injective}
use mathlib.Core.Logic.{dite}
use native.Mathlib.Decide.{ℕ_discrete}
use lib.ListN.{get_elem?}
use Rattle.rx_shape.specs.Places.{times, total, run, read_run}

pub times_here : (x : ℕ) (xs : List ℕ) → times x (x ∷ xs) ≡ 1 + times x xs
times_here x xs = ap (λ (n : ℕ). n + times x xs) (cond-true (x == x) 1 0 (eq-eqb x x refl))

pub times_there : (p x : ℕ) (xs : List ℕ) → x ≢ p → times p (x ∷ xs) ≡ times p xs
times_there p x xs ne = ap (λ (n : ℕ). n + times p xs) (cond-false (x == p) 1 0 (ne_eqb x p ne)) ∙ omega arith

pub times_at : (xs : List ℕ) (k : ℕ) → k < length xs → 0 < times (slice_index xs k) xs
times_at [] k h = absurd (omega arith)
times_at (x ∷ xs) zero h = let e = times_here x xs in omega arith
times_at (x ∷ xs) (suc k) h = let r = times_at xs k (omega arith) in omega arith

-- a place that stands once has one index
pub times_once : (xs : List ℕ) (p a b : ℕ) → times p xs ≤ 1 → a < length xs → b < length xs → slice_index xs a ≡ p → slice_index xs b ≡ p → a ≡ b
times_once [] p a b h la lb ea eb = absurd (omega arith)
times_once (x ∷ xs) p zero zero h la lb ea eb = refl
times_once (x ∷ xs) p zero (suc b) h la lb ea eb =
    let e : times p (x ∷ xs) ≡ 1 + times p xs = subst (λ (y : ℕ). times y (x ∷ xs) ≡ 1 + times y xs) ea (times_here x xs) in
    let r : 0 < times p xs = subst (λ (y : ℕ). 0 < times y xs) eb (times_at xs b (omega arith)) in absurd (omega arith)
times_once (x ∷ xs) p (suc a) zero h la lb ea eb =
    let e : times p (x ∷ xs) ≡ 1 + times p xs = subst (λ (y : ℕ). times y (x ∷ xs) ≡ 1 + times y xs) eb (times_here x xs) in
    let r : 0 < times p xs = subst (λ (y : ℕ). 0 < times y xs) ea (times_at xs a (omega arith)) in absurd (omega arith)
times_once (x ∷ xs) p (suc a) (suc b) h la lb ea eb = ap suc (times_once xs p a b (omega arith) (omega arith) (omega arith) ea eb)

pub times-append : (p : ℕ) (xs ys : List ℕ) → times p (xs ++ ys) ≡ times p xs + times p ys
times-append p [] ys = omega arith
times-append p (x ∷ xs) ys = let r = times-append p xs ys in omega arith

module _ {A : Type 0} (f : A → ℕ) where
  pub sum_at : (xs : List A) (i : ℕ) (v : A) → get_elem? xs i ≡ some v → f v ≤ total f xs
  sum_at [] i v e = absurd (some-ne-none v (sym e))
  sum_at (x ∷ xs) zero v e = let s = ap f (some-injective x v e) in omega arith
  sum_at (x ∷ xs) (suc i) v e = let r = sum_at xs i v e in omega arith

  pub sum_two : (xs : List A) (i j : ℕ) (v u : A) → i ≢ j → get_elem? xs i ≡ some v → get_elem? xs j ≡ some u → f v + f u ≤ total f xs
  sum_two [] i j v u ne e d = absurd (some-ne-none v (sym e))
  sum_two (x ∷ xs) zero zero v u ne e d = absurd (ne refl)
  sum_two (x ∷ xs) zero (suc j) v u ne e d = let s = ap f (some-injective x v e) in let r = sum_at xs j u d in omega arith
  sum_two (x ∷ xs) (suc i) zero v u ne e d = let s = ap f (some-injective x u d) in let r = sum_at xs i v e in omega arith
  sum_two (x ∷ xs) (suc i) (suc j) v u ne e d = let r = sum_two xs i j v u (λ q. ne (ap suc q)) e d in omega arith

  pub sum_set : (xs : List A) (i : ℕ) (v w : A) → get_elem? xs i ≡ some v → total f (set xs i w) + f v ≡ total f xs + f w
  sum_set [] i v w e = absurd (some-ne-none v (sym e))
  sum_set (x ∷ xs) zero v w e = let s = ap f (some-injective x v e) in omega arith
  sum_set (x ∷ xs) (suc i) v w e = let r = sum_set xs i v w e in omega arith

-- runs
pub length-run : (first count : ℕ) → length (run first count) ≡ count
length-run first zero = refl
length-run first (suc count) = ap suc (length-run (first + 1) count)

pub times_run : (first count p : ℕ) → first ≤ p → p < first + count → 0 < times p (run first count)
times_run first zero p from to = absurd (omega arith)
times_run first (suc count) p from to = dite (ℕ_discrete first p)
    (λ e. subst (λ (y : ℕ). 0 < times y (run first (suc count))) e (let s = times_here first (run (first + 1) count) in omega arith))
    (λ ne. let r = times_run (first + 1) count p (omega arith) (omega arith) in omega arith)

pub run_inside : (p first count : ℕ) → 0 < times p (run first count) → (first ≤ p) × (p < first + count)
run_inside p first zero more = absurd (omega arith)
run_inside p first (suc count) more = dite (ℕ_discrete first p)
    (λ e. (omega arith, omega arith))
    (λ ne. let s = times_there p first (run (first + 1) count) ne in let r = run_inside p (first + 1) count (omega arith) in (omega arith, omega arith))

pub run_once : (p first count : ℕ) → times p (run first count) ≤ 1
run_once p first zero = omega arith
run_once p first (suc count) = dite (ℕ_discrete first p)
    (λ e. let s : times p (run first (suc count)) ≡ 1 + times p (run (first + 1) count) = subst (λ (y : ℕ). times y (first ∷ run (first + 1) count) ≡ 1 + times y (run (first + 1) count)) e (times_here first (run (first + 1) count)) in
    dite (ℕ_discrete (times p (run (first + 1) count)) 0) (λ z. omega arith) (λ nz. let r = run_inside p (first + 1) count (omega arith) in absurd (omega arith)))
    (λ ne. let s = times_there p first (run (first + 1) count) ne in let r = run_once p (first + 1) count in omega arith)

pub same_run : (words others : List ℕ) (first count : ℕ) → ((p : ℕ) → first ≤ p → p < first + count → slice_index others p ≡ slice_index words p) → read_run others first count ≡ read_run words first count
same_run words others first zero h = refl
same_run words others first (suc count) h = λ k. h first (omega arith) (omega arith) k ∷ same_run words others (first + 1) count (λ p from to. h p (omega arith) (omega arith)) k

pub length-read_run : (words : List ℕ) (first count : ℕ) → length (read_run words first count) ≡ count
length-read_run words first zero = refl
length-read_run words first (suc count) = ap suc (length-read_run words (first + 1) count)

pub run_grows : (first count : ℕ) → run first (count + 1) ≡ run first count ++ (first + count) ∷ []
run_grows first zero = ap (λ (p : ℕ). p ∷ []) (let e : first ≡ first + 0 = omega arith in e)
run_grows first (suc count) =
    ap (run first) (let e : suc count + 1 ≡ suc (count + 1) = omega arith in e)
    ∙ ap (λ (ps : List ℕ). first ∷ ps) (run_grows (first + 1) count)
    ∙ ap (λ (p : ℕ). first ∷ run (first + 1) count ++ p ∷ []) (let e : first + 1 + count ≡ first + suc count = omega arith in e)
