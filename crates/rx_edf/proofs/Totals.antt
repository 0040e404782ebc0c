-- Sums over all tasks.
use Rattle.std.proofs.Common.{ℕ, zero, suc, ◌≡◌, ◌≤◌, ◌<◌, ◌≢◌, ◌+◌, ◌*◌, inl, inr, arith, ap}
use Rattle.std.proofs.lemmas.Bool.Decides.{eqb_tells}
use Rattle.rx_set.specs.Admission.{total}
use Rattle.rx_set.proofs.Totals.{total_up, total_same}

-- as much everywhere, and some more at one place
pub total_extra : (f g : ℕ → ℕ) (r n c : ℕ) → ((k : ℕ) → k < n → f k ≤ g k) → r < n → f r + c ≤ g r → total f n + c ≤ total g n
total_extra f g r zero c up h more = absurd (omega (arith, h))
total_extra f g r (suc n) c up h more = elim (eqb_tells n r) [
  | inl last ↦
      let here : f n ≡ f r = ap f last.1 in
      let there : g n ≡ g r = ap g last.1 in
      omega (arith, here, there, more, total_up f g n (λ k b. up k (omega (arith, b))))
  | inr other ↦
      let below : r < n = omega (arith, h, other.1) in
      omega (arith, up n (omega arith), total_extra f g r n c (λ k b. up k (omega (arith, b))) below more)
]

-- the same everywhere but at one place
pub total_moved : (f g : ℕ → ℕ) (r n c : ℕ) → ((k : ℕ) → k < n → k ≢ r → g k ≡ f k) → r < n → g r ≡ f r + c → total g n ≡ total f n + c
total_moved f g r zero c same h more = absurd (omega (arith, h))
total_moved f g r (suc n) c same h more = elim (eqb_tells n r) [
  | inl last ↦
      let here : f n ≡ f r = ap f last.1 in
      let there : g n ≡ g r = ap g last.1 in
      omega (arith, here, there, more, total_same g f n (λ k b. same k (omega (arith, b)) (λ e. absurd (omega (arith, e, b, last.1)))))
  | inr other ↦
      let below : r < n = omega (arith, h, other.1) in
      omega (arith, same n (omega arith) other.1, total_moved f g r n c (λ k b. same k (omega (arith, b))) below more)
]

-- at most so much for each
pub total_few : (f : ℕ → ℕ) (c n : ℕ) → ((k : ℕ) → k < n → f k ≤ c) → total f n ≤ n * c
total_few f c zero few = omega arith
total_few f c (suc n) few = grind (arith, few n (omega arith), total_few f c n (λ k h. few k (omega (arith, h))))
