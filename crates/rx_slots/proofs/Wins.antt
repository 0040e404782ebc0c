-- The wins of an object, slot after slot.
use Rattle.std.proofs.Common.{ℕ, zero, suc, ◌≡◌, ◌≤◌, ◌<◌, ◌+◌, Bool, true, false, if◌then◌else◌, Some, None, refl, sym, ◌∙◌, ap, arith, subst}
use Rattle.std.proofs.Math.Decide.{dec_le}
use Rattle.std.proofs.lemmas.Bool.{false≢true}
use Rattle.rx_set.specs.System.{System}
use Rattle.rx_slots.specs.Schedule.{Slot, Idle, Busy, Decide, won_after, wins_on, slots, slot_at}
use Rattle.rx_slots.specs.Events.{wins}
use Rattle.rx_slots.proofs.Attempts.{won_at, won_from, decided_begun}

-- the wins of a longer schedule
win_more : (system : System) (object n : ℕ) → wins object (slots system n) ≤ wins object (slots system (suc n))
win_more system object n = by_test (wins_on object (slot_at system n))
  where
    by_test : (b : Bool) → wins object (slots system n) ≤ (if b then 1 else 0) + wins object (slots system n)
    by_test true = omega arith
    by_test false = omega arith

wins_later : (system : System) (object m n : ℕ) → m ≤ n → wins object (slots system m) ≤ wins object (slots system n)
wins_later system object m zero h = let same_time : m ≡ 0 = omega arith in omega (arith, ap (λ (k : ℕ). wins object (slots system k)) same_time)
wins_later system object m (suc n) h = elim (dec_le m n) [
  | yes before ↦ omega (arith, wins_later system object m n before, win_more system object n)
  | no last ↦ let same_time : m ≡ suc n = omega arith in omega (arith, ap (λ (k : ℕ). wins object (slots system k)) same_time)
]

win_here : (system : System) (object n : ℕ) → wins_on object (slot_at system n) ≡ true → wins object (slots system n) < wins object (slots system (suc n))
win_here system object n h = let more : wins object (slots system (suc n)) ≡ 1 + wins object (slots system n) = ap (λ (b : Bool). (if b then 1 else 0) + wins object (slots system n)) h in omega arith

pub no_win : (system : System) (object n : ℕ) → wins_on object (slot_at system n) ≡ false → wins object (slots system (suc n)) ≡ wins object (slots system n)
no_win system object n h = ap (λ (b : Bool). (if b then 1 else 0) + wins object (slots system n)) h ∙ omega arith

pub not_true : (b : Bool) → (b ≡ true → ⊥) → b ≡ false
not_true true h = absurd (h refl)
not_true false h = refl

-- where one of the wins that raise the tag came in between there are more, and else as many
pub spoiled_more : (system : System) (object first n : ℕ) → won_after object first (slots system n) ≡ true → wins object (slots system first) < wins object (slots system n)
spoiled_more system object first n h =
    let spoiled = won_at system object first n h in
    let before = wins_later system object first spoiled.at (let after = spoiled.after in omega arith) in
    let here = win_here system object spoiled.at spoiled.wins in
    let later = wins_later system object (suc spoiled.at) n spoiled.before in
    omega arith

pub calm_same : (system : System) (object first n : ℕ) → first < n → wins_on object (slot_at system first) ≡ false → won_after object first (slots system n) ≡ false → wins object (slots system n) ≡ wins object (slots system first)
calm_same system object first zero h none calm = absurd (omega arith)
calm_same system object first (suc n) h none calm = elim (dec_le n first) [
  | yes now ↦
      let same_time : n ≡ first = omega arith in
      subst (λ (k : ℕ). wins object (slots system (suc n)) ≡ wins object (slots system k)) same_time
      (no_win system object n (subst (λ (k : ℕ). wins_on object (slot_at system k) ≡ false) (sym same_time) none))
  | no before ↦
      let quiet : wins_on object (slot_at system n) ≡ false
      = not_true (wins_on object (slot_at system n)) (λ win. false≢true (sym calm ∙ won_from system object first (suc n) (record { at = n; after = omega arith; before = omega arith; wins = win }))) in
      let earlier : won_after object first (slots system n) ≡ false
      = not_true (won_after object first (slots system n)) (λ won. let at = won_at system object first n won in
      false≢true (sym calm ∙ won_from system object first (suc n) (record { at = at.at; after = at.after; before = let b = at.before in omega arith; wins = at.wins }))) in
      no_win system object n quiet ∙ calm_same system object first n (omega arith) none earlier
]

-- a win ends an attempt that was begun in an earlier slot
win_later : (system : System) (object n : ℕ) (slot : Slot) → slot_at system n ≡ slot → wins_on object slot ≡ true → 1 ≤ n
win_later system object n Idle e h = absurd (false≢true h)
win_later system object n (Busy job) e h = absurd (false≢true h)
win_later system object n (Decide job other None) e h = absurd (false≢true h)
win_later system object n (Decide job other (Some entry)) e h = let before = (decided_begun system n job other (Some entry) e).before in omega arith

-- there are fewer wins than slots
pub wins_few : (system : System) (object n : ℕ) → wins object (slots system (suc n)) ≤ n
wins_few system object zero = by_first (wins_on object (slot_at system 0)) refl
  where
    by_first : (b : Bool) → wins_on object (slot_at system 0) ≡ b → (if b then 1 else 0) + 0 ≤ 0
    by_first true e = let some = win_later system object 0 (slot_at system 0) refl e in absurd (omega arith)
    by_first false e = omega arith
wins_few system object (suc n) = by_test (wins_on object (slot_at system (suc n))) (wins_few system object n)
  where
    by_test : (b : Bool) → wins object (slots system (suc n)) ≤ n → (if b then 1 else 0) + wins object (slots system (suc n)) ≤ suc n
    by_test true h = omega arith
    by_test false h = omega arith
