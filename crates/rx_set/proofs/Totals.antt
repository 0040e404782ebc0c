-- Sums of the values of a function at the numbers below n.
use Rattle.std.proofs.Common.{ℕ, zero, suc, ◌≡◌, ◌≤◌, ◌<◌, ◌≢◌, ◌+◌, ◌*◌, ◌==◌, Bool, true, false, if◌then◌else◌, inl, inr, refl, sym, ap, arith, subst}
use Rattle.std.proofs.Math.Decide.{dec_le}
use Rattle.std.proofs.lemmas.Bool.Decides.{nat_tests, eqb_tells}
use Rattle.rx_set.specs.Admission.{total}

pub total_up : (f g : ℕ → ℕ) (n : ℕ) → ((k : ℕ) → k < n → f k ≤ g k) → total f n ≤ total g n
total_up f g zero up = omega arith
total_up f g (suc n) up = omega (arith, up n (omega arith), total_up f g n (λ k h. up k (omega (arith, h))))

pub total_same : (f g : ℕ → ℕ) (n : ℕ) → ((k : ℕ) → k < n → f k ≡ g k) → total f n ≡ total g n
total_same f g zero same = refl
total_same f g (suc n) same = omega (arith, same n (omega arith), total_same f g n (λ k h. same k (omega (arith, h))))

pub total_zero : (f : ℕ → ℕ) (n : ℕ) → ((k : ℕ) → k < n → f k ≡ 0) → total f n ≡ 0
total_zero f zero none = refl
total_zero f (suc n) none = omega (arith, none n (omega arith), total_zero f n (λ k h. none k (omega (arith, h))))

pub total_plus : (f g : ℕ → ℕ) (n : ℕ) → total (λ k. f k + g k) n ≡ total f n + total g n
total_plus f g zero = refl
total_plus f g (suc n) = omega (arith, total_plus f g n)

pub total_more : (f : ℕ → ℕ) (m n : ℕ) → m ≤ n → total f m ≤ total f n
total_more f zero n h = omega arith
total_more f (suc m) zero h = absurd (omega (arith, h))
total_more f (suc m) (suc n) h = elim (dec_le (suc m) n) [
  | yes below ↦ omega (arith, total_more f (suc m) n below)
  | no last ↦
      let same : suc m ≡ suc n = omega (arith, h, last) in
      subst (λ (k : ℕ). total f (suc m) ≤ total f k) same (omega arith)
]

pub total_at : (f : ℕ → ℕ) (r n : ℕ) → r < n → f r ≤ total f n
total_at f r n h =
    let one : total f (suc r) ≡ total f r + f r = refl in
    omega (arith, one, total_more f (suc r) n (omega (arith, h)))

-- what has a value at one place alone
pub total_only : (f : ℕ → ℕ) (r n : ℕ) → ((k : ℕ) → k < n → k ≢ r → f k ≡ 0) → total f n ≤ f r
total_only f r zero none = omega arith
total_only f r (suc n) none = elim (eqb_tells n r) [
  | inl last ↦
      let before : total f n ≡ 0 = total_zero f n (λ k h. none k (omega (arith, h)) (λ e. absurd (omega (arith, e, h, last.1)))) in
      let here : f n ≡ f r = ap f last.1 in
      omega (arith, before, here)
  | inr other ↦ omega (arith, none n (omega arith) other.1, total_only f r n (λ k h. none k (omega (arith, h))))
]

-- less everywhere, and strictly so at one place
pub total_above : (f g : ℕ → ℕ) (r n : ℕ) → ((k : ℕ) → k < n → f k ≤ g k) → r < n → f r < g r → total f n < total g n
total_above f g r zero up h less = absurd (omega (arith, h))
total_above f g r (suc n) up h less = elim (eqb_tells n r) [
  | inl last ↦
      let here : f n ≡ f r = ap f last.1 in
      let there : g n ≡ g r = ap g last.1 in
      omega (arith, here, there, less, total_up f g n (λ k b. up k (omega (arith, b))))
  | inr other ↦
      let below : r < n = omega (arith, h, other.1) in
      omega (arith, up n (omega arith), total_above f g r n (λ k b. up k (omega (arith, b))) below less)
]

pub total_swap : (f : ℕ → ℕ → ℕ) (m n : ℕ) → total (λ i. total (λ k. f i k) n) m ≡ total (λ k. total (λ i. f i k) m) n
total_swap f zero n = sym (total_zero (λ k. 0) n (λ k h. refl))
total_swap f (suc m) n = omega (arith, total_swap f m n, total_plus (λ k. total (λ i. f i k) m) (λ k. f m k) n)

pub total_if : (b : Bool) (f : ℕ → ℕ) (n : ℕ) → (if b then total f n else 0) ≡ total (λ k. if b then f k else 0) n
total_if true f n = refl
total_if false f n = sym (total_zero (λ k. 0) n (λ k h. refl))

pub total_times : (c : ℕ) (f : ℕ → ℕ) (n : ℕ) → total (λ k. c * f k) n ≡ c * total f n
total_times c f zero = grind arith
total_times c f (suc n) = grind (arith, total_times c f n)

pub total_some : (f : ℕ → ℕ) (n : ℕ) → 1 ≤ total f n → (k : ℕ) × (k < n) × (1 ≤ f k)
total_some f zero h = absurd (omega (arith, h))
total_some f (suc n) h = elim (dec_le 1 (f n)) [
  | yes here ↦ (n, omega arith, here)
  | no none ↦ let earlier = total_some f n (omega (arith, h, none)) in (earlier.0, omega (arith, earlier.1), earlier.2)
]

-- a function with nothing at one place, and what is taken out of its sum there
abbrev pub without : ℕ → (ℕ → ℕ) → ℕ → ℕ
without r g k = if k == r then 0 else g k

pub without_other : (r : ℕ) (g : ℕ → ℕ) (k : ℕ) → k ≢ r → without r g k ≡ g k
without_other r g k other = grind (arith, nat_tests)

without_here : (r : ℕ) (g : ℕ → ℕ) (k : ℕ) → k ≡ r → without r g k ≡ 0
without_here r g k here = grind (arith, nat_tests)

pub total_without : (r : ℕ) (g : ℕ → ℕ) (m : ℕ) → r < m → total (without r g) m + g r ≡ total g m
total_without r g zero h = absurd (omega (arith, h))
total_without r g (suc m) h = elim (eqb_tells m r) [
  | inl last ↦
      let value : g m ≡ g r = ap g last.1 in
      omega (arith, value, without_here r g m last.1, total_same (without r g) g m (λ k b. without_other r g k (λ e. absurd (omega (arith, e, b, last.1)))))
  | inr other ↦ omega (arith, without_other r g m other.1, total_without r g m (omega (arith, h, other.1)))
]

-- each place of a first sum that has a value is charged to a place of a second one that has as much, and no two to the same
pub charged : (R : ℕ → ℕ → Type 0) (f g : ℕ → ℕ) (n m : ℕ)
    → ((i : ℕ) → i < n → 1 ≤ f i → (r : ℕ) × (r < m) × (f i ≤ g r) × R i r)
    → ((i k r : ℕ) → R i r → R k r → i ≡ k)
    → total f n ≤ total g m
charged R f g zero m each once = omega arith
charged R f g (suc n) m each once = elim (dec_le 1 (f n)) [
  | no none ↦ omega (arith, none, charged R f g n m (λ i h. each i (omega (arith, h))) once)
  | yes some ↦
      let last = each n (omega arith) some in
      let r : ℕ = last.0 in
      let inside : r < m = last.1 in
      let much : f n ≤ g r = last.2 in
      let earlier = charged R f (without r g) n m
      (λ i h value.
      let its = each i (omega (arith, h)) value in
      let apart : its.0 ≢ r = λ e. absurd (omega (arith, h, once i n r (subst (λ (k : ℕ). R i k) e its.3) last.3)) in
      let same : without r g its.0 ≡ g its.0 = without_other r g its.0 apart in
      (its.0, its.1, omega (arith, its.2, same), its.3))
      once in
      omega (arith, earlier, much, total_without r g m inside)
]
