-- The least common multiple of the periods.
use Rattle.std.proofs.Common.{ℕ, zero, suc, ◌≡◌, ◌≤◌, ◌<◌, ◌+◌, ◌*◌, ◌/◌, ◌%◌, ◌==◌, true, List, length, Option, Some, None, refl, sym, ◌∙◌, ap, arith, subst}
use Rattle.std.proofs.Math.Nat.{one-dvd, mul-div_cancel', dvd-add_iff_right, dvd-mul_left, dvd-mul_right, dvd-zero, dvd_trans, mul-dvd-mul_right, div-mul_cancel, dvd_of_mul-dvd-mul_right, le_of_dvd, pos_of_dvd_of_pos, div-le_of_le-mul, le-mul_of_pos_right, mod-eq-zero_of_dvd, dvd_of_mod-eq-zero, dvd-mul_right_of_dvd}
use Rattle.std.proofs.Math.Decide.{dec_le}
use Rattle.std.proofs.lemmas.Bool.{false≢true}
use Rattle.std.proofs.lemmas.Bool.Decides.{nat_tests}
use Rattle.std.proofs.lemmas.Nat.{mod_below, le-div}
use Rattle.std.proofs.lemmas.Nat.Gcd.{IsGcd-from_zero, IsGcd-from_mod}
use Rattle.std.specs.Int.{IsGcd, ◌∣◌}
use Rattle.rx_set.specs.Admission.{first_to}
use Rattle.rx_set.proofs.Firsts.{first_none, first_some}
use Rattle.rx_edf.specs.declared.charged_tasks.ChargedTask.{ChargedTask}
use Rattle.rx_edf.specs.ChargedTasks.{AreChargedTasks, charged_task_at, common, or_zero, cycle_to}

test_passes : (a b k : ℕ) → b ∣ a * k → (a * k % b == 0) ≡ true
test_passes a b k d = let e : a * k % b ≡ 0 = mod-eq-zero_of_dvd b d in grind (arith, nat_tests)

test_tells : (a b k : ℕ) → (a * k % b == 0) ≡ true → b ∣ a * k
test_tells a b k e = dvd_of_mod-eq-zero b (grind (arith, nat_tests))

-- the least multiple of one number that another divides
pub record IsCommon (a b k : ℕ) : Type 0 where
  pub some : 1 ≤ k
  pub is : common a b ≡ a * k
  pub divides : b ∣ a * k
  pub least : (m : ℕ) → 1 ≤ m → b ∣ a * m → k ≤ m

pub common_found : (a b : ℕ) → 1 ≤ b → (k : ℕ) × IsCommon a b k
common_found a b some = by_found (first_to (λ k. a * k % b == 0) b) refl
  where
    by_found : (o : Option ℕ) → first_to (λ k. a * k % b == 0) b ≡ o → (k : ℕ) × IsCommon a b k
    by_found None e = absurd (false≢true (sym (first_none (λ k. a * k % b == 0) b e b some (omega arith)) ∙ test_passes a b b (dvd-mul_left b a)))
    by_found (Some k) e =
        let found = first_some (λ k. a * k % b == 0) b k e in
        let not_before : (m : ℕ) → 1 ≤ m → m < k → b ∣ a * m → ⊥ = λ m one less d. false≢true (sym (found.least m one less) ∙ test_passes a b m d) in (
          k,
          record {
            some = found.some;
            is = ap (λ (o : Option ℕ). a * or_zero o) e;
            divides = test_tells a b k found.passes;
            least = λ m one d. elim (dec_le k m) [
              | yes h ↦ h
              | no h ↦ absurd (not_before m one (omega (arith, h)) d)
            ];
          },
        )

-- any two numbers have a greatest common divisor
gcd_exists : (f a b : ℕ) → b ≤ f → (g : ℕ) × IsGcd a b g
gcd_exists zero a b h = (a, IsGcd-from_zero a b (omega (arith, h)))
gcd_exists (suc f) a b h = elim (dec_le 1 b) [
  | no none ↦ (a, IsGcd-from_zero a b (omega (arith, none)))
  | yes some ↦
      let rest = gcd_exists f b (a % b) (omega (arith, h, some, mod_below a b some)) in
      (rest.0, IsGcd-from_mod a b rest.0 rest.1)
]

-- what divides a multiple of one number divides the multiple of the divisor that it has in common with it
part_divides : (a b g k : ℕ) → IsGcd a b g → b ∣ a * k → b ∣ g * k
part_divides a b g k is d = elim (dec_le 1 k) [
  | no none ↦
      let nothing : g * k ≡ 0 = grind arith in
      subst (λ n. b ∣ n) (sym nothing) (dvd-zero b)
  | yes some ↦
      let pos : 0 < k = omega (arith, some) in
      let found = gcd_exists (b * k) (a * k) (b * k) (omega arith) in
      let whole : ℕ = found.0 in
      let part : ℕ = whole / k in
      let e : part * k ≡ whole = div-mul_cancel k (found.1.2 k (dvd-mul_left k a) (dvd-mul_left k b)) in
      let of_a : part ∣ a = dvd_of_mul-dvd-mul_right part pos (subst (λ n. n ∣ a * k) (sym e) found.1.0) in
      let of_b : part ∣ b = dvd_of_mul-dvd-mul_right part pos (subst (λ n. n ∣ b * k) (sym e) found.1.1) in
      let within : whole ∣ g * k = subst (λ n. n ∣ g * k) e (mul-dvd-mul_right part (is.2 part of_a of_b) k) in
      dvd_trans b (found.1.2 b d (dvd-mul_right b k)) within
]

-- the least common multiple by the greatest common divisor
pub common_is : (a b g : ℕ) → 1 ≤ b → IsGcd a b g → common a b ≡ a * (b / g)
common_is a b g some is =
    let pos : 0 < b = omega (arith, some) in
    let some_g : 0 < g = pos_of_dvd_of_pos is.1 pos in
    let e : b / g * g ≡ b = div-mul_cancel g is.1 in
    let few : g ≤ b = le_of_dvd pos is.1 in
    let one : 1 ≤ b / g = le-div 1 b g some_g (omega (arith, few)) in
    let of_a : a / g * g ≡ a = div-mul_cancel g is.0 in
    let found = common_found a b some in
    let here : b ∣ a * (b / g) = subst (λ n. b ∣ n) (product a b g e of_a) (dvd-mul_left b (a / g)) in
    let high : found.0 ≤ b / g = found.1.least (b / g) one here in
    let some_k : 0 < g * found.0 = some_product g found.0 some_g found.1.some in
    let low : b / g ≤ found.0 = div-le_of_le-mul g (le_of_dvd some_k (part_divides a b g found.0 is found.1.divides)) in
    found.1.is ∙ ap (λ n. a * n) (omega (arith, high, low))
  where
    turn : (x y g : ℕ) → x * (y * g) ≡ x * g * y
    turn x y g = grind arith

    product : (a b g : ℕ) → b / g * g ≡ b → a / g * g ≡ a → a / g * b ≡ a * (b / g)
    product a b g e f = ap (λ (n : ℕ). a / g * n) (sym e) ∙ turn (a / g) (b / g) g ∙ ap (λ (n : ℕ). n * (b / g)) f

    some_product : (x y : ℕ) → 0 < x → 1 ≤ y → 0 < x * y
    some_product x y h i = grind arith

-- the steps of the cycle
pub common_some : (a b : ℕ) → 1 ≤ a → 1 ≤ b → a ≤ common a b
common_some a b one some =
    let found = common_found a b some in
    let k : ℕ = found.0 in
    omega (arith, found.1.is, le-mul_of_pos_right {m = k} a (omega (arith, found.1.some)))

pub cycle_some : (charged : List ChargedTask) (n : ℕ) → AreChargedTasks charged → n ≤ length charged → 1 ≤ cycle_to charged n
cycle_some charged zero are h = omega arith
cycle_some charged (suc n) are h =
    let earlier = cycle_some charged n are (omega (arith, h)) in
    omega (arith, earlier, common_some (cycle_to charged n) (charged_task_at charged n).period earlier ((are.each n (omega (arith, h))).period.0))

pub cycle_more : (charged : List ChargedTask) (m n : ℕ) → AreChargedTasks charged → n ≤ length charged → m ≤ n → cycle_to charged m ≤ cycle_to charged n
cycle_more charged m zero are h below =
    let same : m ≡ 0 = omega (arith, below) in
    subst (λ (k : ℕ). cycle_to charged k ≤ 1) (sym same) (omega arith)
cycle_more charged m (suc n) are h below = elim (dec_le m n) [
  | yes earlier ↦
      let before = cycle_more charged m n are (omega (arith, h)) earlier in
      omega (arith, before, common_some (cycle_to charged n) (charged_task_at charged n).period (cycle_some charged n are (omega (arith, h))) ((are.each n (omega (arith, h))).period.0))
  | no last ↦
      let same : m ≡ suc n = omega (arith, below, last) in
      subst (λ (k : ℕ). cycle_to charged k ≤ cycle_to charged (suc n)) (sym same) (omega arith)
]

pub cycle_divides : (charged : List ChargedTask) (n place : ℕ) → AreChargedTasks charged → n ≤ length charged → place < n → (charged_task_at charged place).period ∣ cycle_to charged n
cycle_divides charged zero place are h below = absurd (omega (arith, below))
cycle_divides charged (suc n) place are h below =
    let some = (are.each n (omega (arith, h))).period.0 in
    let found = common_found (cycle_to charged n) (charged_task_at charged n).period some in
    let k : ℕ = found.0 in
    elim (dec_le (suc place) n) [
      | yes earlier ↦
          subst (λ m. (charged_task_at charged place).period ∣ m) (sym found.1.is)
          (dvd-mul_right_of_dvd (charged_task_at charged place).period (cycle_divides charged n place are (omega (arith, h)) earlier) k)
      | no last ↦
          let same : n ≡ place = omega (arith, below, last) in
          subst (λ j. (charged_task_at charged j).period ∣ common (cycle_to charged n) (charged_task_at charged n).period) same
          (subst (λ m. (charged_task_at charged n).period ∣ m) (sym found.1.is) found.1.divides)
    ]

-- a common multiple of both numbers is a multiple of the least one
common_least : (a b n : ℕ) → 1 ≤ b → a ∣ n → b ∣ n → common a b ∣ n
common_least a b n some of_a of_b =
    let found = common_found a b some in
    let k : ℕ = found.0 in
    let times : ℕ = n / a in
    let whole : a * times ≡ n = mul-div_cancel' a of_a in
    let left : ℕ = times % k in
    let parts : a * k * (times / k) + a * left ≡ n = split a k times (times / k) left (omega arith) ∙ whole in
    let front : b ∣ a * k * (times / k) = dvd-mul_right_of_dvd b found.1.divides (times / k) in
    let back : b ∣ a * left = (dvd-add_iff_right b front).1 (subst (λ (m : ℕ). b ∣ m) (sym parts) of_b) in
    let none : left ≡ 0 = elim (dec_le 1 left) [
      | yes one ↦ absurd (omega (arith, found.1.least left one back, mod_below times k (omega (arith, found.1.some))))
      | no zero_left ↦ omega (arith, zero_left)
    ] in
    let all : a * k * (times / k) ≡ n = omega (arith, parts, ap (λ (m : ℕ). a * m) none, nothing a) in
    subst (λ (m : ℕ). m ∣ n) (sym found.1.is) (subst (λ (m : ℕ). a * k ∣ m) all (dvd-mul_right (a * k) (times / k)))
  where
    join : (a k q left : ℕ) → a * k * q + a * left ≡ a * (k * q + left)
    join a k q left = grind arith

    split : (a k times q left : ℕ) → k * q + left ≡ times → a * k * q + a * left ≡ a * times
    split a k times q left e = join a k q left ∙ ap (λ (m : ℕ). a * m) e

    nothing : (a : ℕ) → a * 0 ≡ 0
    nothing a = omega arith

pub cycle_least : (charged : List ChargedTask) (n m : ℕ) → AreChargedTasks charged → n ≤ length charged → ((place : ℕ) → place < length charged → (charged_task_at charged place).period ∣ m) → cycle_to charged n ∣ m
cycle_least charged zero m are h each = one-dvd m
cycle_least charged (suc n) m are h each =
    common_least (cycle_to charged n) (charged_task_at charged n).period m (are.each n (omega (arith, h))).period.0 (cycle_least charged n m are (omega (arith, h)) each) (each n (omega (arith, h)))
