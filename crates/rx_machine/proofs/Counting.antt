-- How many words a plan writes.
use Rattle.std.proofs.Common.{◌≡◌, ℕ, zero, suc, ◌+◌, ◌<◌, ◌≤◌, List, [], ◌∷◌, ◌++◌, length, refl, sym, ap, ◌∙◌, subst, arith, take, get_or, append_assoc, append-nil}
use Rattle.std.proofs.Math.Seq.{take-suc}
use mathlib.Core.Logic.{dite}
use native.Mathlib.Decide.{ℕ_discrete}
use Rattle.rx_shape.specs.declared.plans.Write.{Write}
use Rattle.rx_shape.specs.Places.{times}
use Rattle.rx_shape.specs.Versions.{NotWritten}
use Rattle.rx_shape.specs.Asks.{WritesOnce}
use Rattle.rx_shape.proofs.Times.{times_here, times_there}

abbrev owns : List Write → List ℕ
owns [] = []
owns (w ∷ ws) = w.own ∷ owns ws

-- how many of the numbers are below another
abbrev hits : ℕ → List ℕ → ℕ
hits zero xs = 0
hits (suc n) xs = hits n xs + times n xs

hits_above : (n x : ℕ) (xs : List ℕ) → n ≤ x → hits n (x ∷ xs) ≡ hits n xs
hits_above zero x xs h = refl
hits_above (suc n) x xs h =
    let r : hits n (x ∷ xs) ≡ hits n xs = hits_above n x xs (omega arith) in let t : times n (x ∷ xs) ≡ times n xs = times_there n x xs (λ e. omega arith) in omega arith

hits_below : (n x : ℕ) (xs : List ℕ) → x < n → hits n (x ∷ xs) ≡ 1 + hits n xs
hits_below zero x xs h = absurd (omega arith)
hits_below (suc n) x xs h =
    dite (ℕ_discrete x n)
    (λ e. let r : hits n (x ∷ xs) ≡ hits n xs = hits_above n x xs (omega arith) in let t : times n (x ∷ xs) ≡ 1 + times n xs = subst (λ m. times m (x ∷ xs) ≡ 1 + times m xs) e (times_here x xs) in omega arith)
    (λ ne. let r : hits n (x ∷ xs) ≡ 1 + hits n xs = hits_below n x xs (omega arith) in let t : times n (x ∷ xs) ≡ times n xs = times_there n x xs ne in omega arith)

hits_few : (n : ℕ) (xs : List ℕ) → ((p : ℕ) → times p xs ≤ 1) → hits n xs ≤ n
hits_few zero xs h = omega arith
hits_few (suc n) xs h = let r : hits n xs ≤ n = hits_few n xs h in let t : times n xs ≤ 1 = h n in omega arith

not_before : (n : ℕ) (w : Write) (done : List Write) → NotWritten n (done ++ w ∷ []) → NotWritten n done
not_before n w [] h = tt
not_before n w (x ∷ done) h = (h.0, not_before n w done h.1)

not_last : (n : ℕ) (w : Write) (done : List Write) → NotWritten n (done ++ w ∷ []) → w.own ≡ n → ⊥
not_last n w [] h e = h.0 e
not_last n w (x ∷ done) h e = not_last n w done h.1 e

written_apart : (count n : ℕ) (done ws : List Write) → WritesOnce count done ws → (NotWritten n done → ⊥) → times n (owns ws) ≡ 0
written_apart count n done [] h written = refl
written_apart count n done (w ∷ ws) h written =
    times_there n w.own (owns ws) (λ e. written (subst (λ m. NotWritten m done) e h.1)) ∙ written_apart count n (done ++ w ∷ []) ws h.2 (λ q. written (not_before n w done q))

written_once : (count n : ℕ) (done ws : List Write) → WritesOnce count done ws → times n (owns ws) ≤ 1
written_once count n done [] h = omega arith
written_once count n done (w ∷ ws) h =
    dite (ℕ_discrete w.own n)
    (λ e. let none : times n (owns ws) ≡ 0 = written_apart count n (done ++ w ∷ []) ws h.2 (λ q. not_last n w done q e) in let t : times n (w.own ∷ owns ws) ≡ 1 + times n (owns ws) = subst (λ m. times m (w.own ∷ owns ws) ≡ 1 + times m (owns ws)) e (times_here w.own (owns ws)) in omega arith)
    (λ ne. let r : times n (owns ws) ≤ 1 = written_once count n (done ++ w ∷ []) ws h.2 in let t : times n (w.own ∷ owns ws) ≡ times n (owns ws) = times_there n w.own (owns ws) ne in omega arith)

hits_all : (count : ℕ) (done ws : List Write) → WritesOnce count done ws → hits count (owns ws) ≡ length ws
hits_all count done [] h = none_hit count
  where
    none_hit : (n : ℕ) → hits n [] ≡ 0
    none_hit zero = refl
    none_hit (suc n) = let r : hits n [] ≡ 0 = none_hit n in omega arith
hits_all count done (w ∷ ws) h = hits_below count w.own (owns ws) h.0 ∙ ap (λ n. 1 + n) (hits_all count (done ++ w ∷ []) ws h.2) ∙ (let e : 1 + length ws ≡ suc (length ws) = omega arith in e)

pub few_writes : (count : ℕ) (ws : List Write) → WritesOnce count [] ws → length ws ≤ count
few_writes count ws h = subst (λ n. n ≤ count) (hits_all count [] ws h) (hits_few count (owns ws) (λ p. written_once count p [] ws h))

-- the next write of a plan is of a number that was not written yet
next_once : (count : ℕ) (done ws : List Write) (k : ℕ) (d : Write) → WritesOnce count done ws → k < length ws → ((get_or ws k d).own < count) × NotWritten (get_or ws k d).own (done ++ take k ws)
next_once count done [] k d h below = absurd (omega arith)
next_once count done (w ∷ ws) zero d h below = (h.0, rw append-nil h.1)
next_once count done (w ∷ ws) (suc k) d h below = let r = next_once count (done ++ w ∷ []) ws k d h.2 (omega arith) in (r.0, rw append_assoc at r.1)

pub next_new : (count : ℕ) (ws : List Write) (k : ℕ) (w : Write) → WritesOnce count [] ws → k < length ws → w ≡ get_or ws k w → (w.own < count) × NotWritten w.own (take k ws)
next_new count ws k w h below e = let r = next_once count [] ws k w h below in (subst (λ x. x.own < count) (sym e) r.0, subst (λ x. NotWritten x.own (take k ws)) (sym e) r.1)

pub take_next : (ws : List Write) (k : ℕ) (w : Write) → k < length ws → w ≡ get_or ws k w → take k ws ++ w ∷ [] ≡ take (k + 1) ws
take_next ws k w below e = ap (λ x. take k ws ++ x ∷ []) e ∙ sym (take-suc ws k w below) ∙ ap (λ n. take n ws) (let q : suc k ≡ k + 1 = omega arith in q)

pub take_whole : (ws : List Write) → take (length ws) ws ≡ ws
take_whole [] = refl
take_whole (w ∷ ws) = ap (λ xs. w ∷ xs) (take_whole ws)
