-- How many jobs of a task are released in an interval.
use Rattle.std.proofs.Common.{ℕ, zero, suc, ◌≡◌, ◌≤◌, ◌<◌, ◌+◌, ◌-◌, ◌*◌, ◌&&◌, ◌⊎◌, inl, inr, nat_le, nat_lt, Bool, true, false, length, refl, sym, ◌∙◌, ap, arith, le-div_iff_mul-le}
use Rattle.std.proofs.lemmas.Bool.{leb-true, ltb-true}
use Rattle.rx_set.specs.System.{System, task_at, release}
use Rattle.rx_set.specs.Valid.{IsValid}
use Rattle.rx_set.specs.Admission.{total, ceiling}
use Rattle.rx_set.proofs.Totals.{total_same, total_zero, total_times}
use Rattle.rx_slots.specs.Laws.{nth_job}
use Rattle.rx_slots.proofs.Choices.{both}
use Rattle.rx_slots.proofs.WindowLaw.{where_it}

-- a number from low to high - 1
abbrev pub within : ℕ → ℕ → ℕ → Bool
within low high k = nat_le low k && nat_lt k high

-- the last of some that are counted is so far behind the first
record IsSpread (offset period low high n count : ℕ) : Type 0 where
  pub less : ℕ
  pub counts : count ≡ suc less
  pub last : ℕ
  pub below : last < n
  pub apart : less * period + low ≤ offset + last * period
  pub inside : offset + last * period < high

one_period : (k n period : ℕ) → k < n → k * period + period ≤ n * period
one_period k n period h = grind arith

more_periods : (k period : ℕ) → suc k * period ≡ k * period + period
more_periods k period = grind arith

module _ (offset period low high : ℕ) where
  none_or_some : (n : ℕ) → (total (λ k. where_it (within low high (offset + k * period)) 1) n ≡ 0)
      ⊎ IsSpread offset period low high n (total (λ k. where_it (within low high (offset + k * period)) 1) n)
  none_or_some zero = inl refl
  none_or_some (suc n) = by_test (within low high (offset + n * period)) refl (none_or_some n)
    where
      one_more : (count : ℕ) → (low ≤ offset + n * period) → (offset + n * period < high) → (count ≡ 0) ⊎ IsSpread offset period low high n count → IsSpread offset period low high (suc n) (count + 1)
      one_more count from until (inl none) =
          let nothing : 0 * period ≡ 0 = grind arith in
          record { less = 0; counts = omega (arith, none); last = n; below = omega arith; apart = omega (arith, from, nothing); inside = until }
      one_more count from until (inr h) =
          record {
            less = suc h.less;
            counts = omega (arith, h.counts);
            last = n;
            below = omega arith;
            apart = omega (arith, h.apart, h.below, one_period h.last n period h.below, more_periods h.less period);
            inside = until;
          }

      no_more : (count : ℕ) → (count ≡ 0) ⊎ IsSpread offset period low high n count → (count + 0 ≡ 0) ⊎ IsSpread offset period low high (suc n) (count + 0)
      no_more count (inl none) = inl (omega (arith, none))
      no_more count (inr h) = inr (record { less = h.less; counts = omega (arith, h.counts); last = h.last; below = omega (arith, h.below); apart = h.apart; inside = h.inside })

      by_test : (b : Bool) → within low high (offset + n * period) ≡ b
          → (total (λ k. where_it (within low high (offset + k * period)) 1) n ≡ 0) ⊎ IsSpread offset period low high n (total (λ k. where_it (within low high (offset + k * period)) 1) n)
          → (total (λ k. where_it (within low high (offset + k * period)) 1) n + where_it b 1 ≡ 0)
          ⊎ IsSpread offset period low high (suc n) (total (λ k. where_it (within low high (offset + k * period)) 1) n + where_it b 1)
      by_test true e h =
          let parts = both (nat_le low (offset + n * period)) (nat_lt (offset + n * period) high) e in
          inr (one_more (total (λ k. where_it (within low high (offset + k * period)) 1) n) (leb-true low (offset + n * period) parts.0) (ltb-true (offset + n * period) high parts.1) h)
      by_test false e h = no_more (total (λ k. where_it (within low high (offset + k * period)) 1) n) h

  few_counted : (count n : ℕ) → 1 ≤ period → (count ≡ 0) ⊎ IsSpread offset period low high n count → count ≤ ceiling (high - low) period
  few_counted count n some (inl none) = omega (arith, none)
  few_counted count n some (inr h) =
      let room : h.less * period < high - low = omega (arith, h.apart, h.inside) in
      let product : count * period ≡ h.less * period + period = ap (λ (k : ℕ). k * period) h.counts ∙ more_periods h.less period in
      (le-div_iff_mul-le {k = period} some).1 (omega (arith, room, product, some))

  -- of the numbers that stand a period apart so many are in an interval, at most
  pub count_small : (n : ℕ) → 1 ≤ period → total (λ k. where_it (within low high (offset + k * period)) 1) n ≤ ceiling (high - low) period
  count_small n some = few_counted (total (λ k. where_it (within low high (offset + k * period)) 1) n) n some (none_or_some n)

pub release_is : (system : System) (task k : ℕ) → (task_at system task).offset + k * (task_at system task).period ≡ release system (nth_job task (suc k))
release_is system task k =
    let number : k ≡ suc k - 1 = omega arith in ap (λ (m : ℕ). (task_at system task).offset + m * (task_at system task).period) number

weighed : (t : Bool) (value : ℕ) → where_it t value ≡ value * where_it t 1
weighed true value = grind arith
weighed false value = grind arith

-- the jobs of a task that are released in an interval, each with its value
pub task_jobs : (system : System) (task low high value n : ℕ) → IsValid system → task < length system.tasks
    → total (λ k. where_it (within low high (release system (nth_job task (suc k)))) value) n ≤ ceiling (high - low) (task_at system task).period * value
task_jobs system task low high value n valid known =
    let offset : ℕ = (task_at system task).offset in
    let period : ℕ = (task_at system task).period in
    let times : total (λ k. where_it (within low high (release system (nth_job task (suc k)))) value) n ≡ value * total (λ k. where_it (within low high (offset + k * period)) 1) n =
    total_same (λ k. where_it (within low high (release system (nth_job task (suc k)))) value) (λ k. value * where_it (within low high (offset + k * period)) 1) n
    (λ k h. ap (λ (r : ℕ). where_it (within low high r) value) (sym (release_is system task k)) ∙ weighed (within low high (offset + k * period)) value)
    ∙ total_times value (λ k. where_it (within low high (offset + k * period)) 1) n in
    omega (
      arith,
      times,
      product (total (λ k. where_it (within low high (offset + k * period)) 1) n) (ceiling (high - low) period) value
          (count_small offset period low high n (valid.tasks task known).period.0),
    )
  where
    product : (x y v : ℕ) → x ≤ y → v * x ≤ y * v
    product x y v h = grind arith

-- and where a test of the task passes
pub task_jobs_where : (system : System) (task low high value n : ℕ) (t : Bool) → IsValid system → task < length system.tasks
    → total (λ k. where_it (t && within low high (release system (nth_job task (suc k)))) value) n ≤ where_it t (ceiling (high - low) (task_at system task).period * value)
task_jobs_where system task low high value n true valid known = task_jobs system task low high value n valid known
task_jobs_where system task low high value n false valid known = omega (arith, total_zero (λ k. 0) n (λ k h. refl))
