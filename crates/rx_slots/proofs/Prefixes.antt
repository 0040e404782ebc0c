-- The first slots of a schedule.
use Rattle.std.proofs.Common.{ℕ, zero, suc, ◌≡◌, ◌≤◌, ◌<◌, ◌+◌, ◌-◌, length, drop, Some, refl, ◌∙◌, ap, arith}
use Rattle.std.specs.List.{slice_get}
use Rattle.rx_set.specs.System.{System}
use Rattle.rx_slots.specs.Schedule.{slots, slot_at}

-- a slot has as many slots behind it as its number says
pub slots_count : (system : System) (n : ℕ) → length (slots system n) ≡ n
slots_count system zero = refl
slots_count system (suc n) = ap suc (slots_count system n)

drop_more : (system : System) (n more : ℕ) → drop more (slots system (more + n)) ≡ slots system n
drop_more system n zero = let same : 0 + n ≡ n = omega arith in ap (λ (m : ℕ). drop 0 (slots system m)) same
drop_more system n (suc more) =
    let same : suc more + n ≡ suc (more + n) = omega arith in
    ap (λ (m : ℕ). drop (suc more) (slots system m)) same ∙ drop_more system n more

-- a longer schedule begins with the shorter one
pub first_slots : (system : System) (m n : ℕ) → n ≤ m → drop (m - n) (slots system m) ≡ slots system n
first_slots system m n h =
    let same : m ≡ m - n + n = omega arith in
    ap (λ (k : ℕ). drop (m - n) (slots system k)) same ∙ drop_more system n (m - n)

get_more : (system : System) (n more : ℕ) → slice_get (slots system (more + suc n)) more ≡ Some (slot_at system n)
get_more system n zero = let same : 0 + suc n ≡ suc n = omega arith in ap (λ (m : ℕ). slice_get (slots system m) 0) same
get_more system n (suc more) =
    let same : suc more + suc n ≡ suc (more + suc n) = omega arith in
    ap (λ (m : ℕ). slice_get (slots system m) (suc more)) same ∙ get_more system n more

pub slot_stays : (system : System) (m n : ℕ) → n < m → slice_get (slots system m) (m - 1 - n) ≡ Some (slot_at system n)
slot_stays system m n h =
    let same : m ≡ m - 1 - n + suc n = omega arith in
    ap (λ (k : ℕ). slice_get (slots system k) (m - 1 - n)) same ∙ get_more system n (m - 1 - n)
