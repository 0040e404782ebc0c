-- The history of a schedule, and its tags.
use Rattle.std.proofs.Common.{ℕ, zero, suc, ◌≡◌, ◌≤◌, ◌<◌, ◌+◌, ◌==◌, ◌&&◌, nat_lt, Bool, true, false, if◌then◌else◌, List, [], ◌∷◌, ◌++◌, length, Option, Some, None, refl, sym, ◌∙◌, ap, arith, subst}
use Rattle.std.proofs.Math.Decide.{dec_le}
use Rattle.std.proofs.lemmas.Bool.Decides.{nat_tests}
use Rattle.rx_seq.specs.declared.entries.Entry.{Entry}
use Rattle.rx_seq.specs.declared.kinds.Part.{Part}
use Rattle.rx_seq.specs.Table.{effect}
use Rattle.rx_seq.specs.History.{is_loud, replay, tag_of, calls_of, part_at, entry_after}
use Rattle.rx_set.specs.declared.jobs.Job.{Job}
use Rattle.rx_set.specs.System.{System, parts_of}
use Rattle.rx_slots.specs.Schedule.{Slot, Idle, Busy, Decide, noted, history, wins_on, slots, slot_at}
use Rattle.rx_slots.specs.Events.{wins, wins_below}
use Rattle.rx_slots.specs.Laws.{who}
use Rattle.rx_slots.proofs.Prefixes.{slots_count}
use Rattle.rx_slots.proofs.Choices.{idle_none}
use Rattle.rx_slots.proofs.Steps.{IsOwn, Goes, Works, Loses, Wins, own_at}

-- the wins of an object are its loud entries
pub wins_tags : (object : ℕ) (past : List Slot) → wins object past ≡ tag_of object (history past)
wins_tags object [] = refl
wins_tags object (Idle ∷ past) = omega (arith, wins_tags object past)
wins_tags object (Busy job ∷ past) = omega (arith, wins_tags object past)
wins_tags object (Decide job other None ∷ past) = omega (arith, wins_tags object past)
wins_tags object (Decide job other (Some entry) ∷ past) = ap (λ (k : ℕ). (if (object == entry.object) && is_loud entry then 1 else 0) + k) (wins_tags object past)

wins_all : (system : System) (object m n : ℕ) → n ≤ m → wins_below object m (slots system n) ≡ wins object (slots system n)
wins_all system object m zero h = refl
wins_all system object m (suc n) h =
    ap (λ (b : Bool). (if wins_on object (slot_at system n) && b then 1 else 0) + wins_below object m (slots system n)) (before (length (slots system n)) m (omega (arith, slots_count system n)))
    ∙ by_test (wins_on object (slot_at system n)) (wins_all system object m n (omega arith))
  where
    before : (a b : ℕ) → a < b → nat_lt a b ≡ true
    before a b h = grind (arith, nat_tests)

    by_test : (b : Bool) → wins_below object m (slots system n) ≡ wins object (slots system n)
        → (if b && true then 1 else 0) + wins_below object m (slots system n) ≡ (if b then 1 else 0) + wins object (slots system n)
    by_test true e = ap (λ (k : ℕ). 1 + k) e
    by_test false e = ap (λ (k : ℕ). 0 + k) e

-- the wins below a slot are those before it
pub wins_before : (system : System) (object m n : ℕ) → m ≤ n → wins_below object m (slots system n) ≡ wins object (slots system m)
wins_before system object m zero h =
    let none : 0 ≡ m = omega arith in ap (λ (k : ℕ). wins object (slots system k)) none
wins_before system object m (suc n) h = elim (dec_le m n) [
  | yes early ↦
      ap (λ (b : Bool). (if wins_on object (slot_at system n) && b then 1 else 0) + wins_below object m (slots system n)) (not_before (length (slots system n)) m (omega (arith, slots_count system n)))
      ∙ by_test (wins_on object (slot_at system n)) (wins_before system object m n early)
  | no last ↦
      let same_time : suc n ≡ m = omega arith in
      wins_all system object m (suc n) (omega arith) ∙ ap (λ (k : ℕ). wins object (slots system k)) same_time
]
  where
    not_before : (a b : ℕ) → b ≤ a → nat_lt a b ≡ false
    not_before a b h = grind (arith, nat_tests)

    by_test : (b : Bool) → wins_below object m (slots system n) ≡ wins object (slots system m) → (if b && false then 1 else 0) + wins_below object m (slots system n) ≡ wins object (slots system m)
    by_test true e = omega (arith, e)
    by_test false e = omega (arith, e)

-- each entry is the one that its call makes after those before it
abbrev pub IsLegal : List Part → List Entry → Type 0
IsLegal parts [] = Unit {0}
IsLegal parts (entry ∷ before) = (entry ≡ entry_after parts before entry.caller entry.object entry.call) × IsLegal parts before

legal_slot : (system : System) (n : ℕ) (slot : Slot) (job : Job) → IsOwn system (slots system n) job slot → IsLegal (parts_of system) (history (slots system n))
    → IsLegal (parts_of system) (noted slot (history (slots system n)))
legal_slot system n slot job (Goes is some next) before = subst (λ (s : Slot). IsLegal (parts_of system) (noted s (history (slots system n)))) (sym is) before
legal_slot system n slot job (Works is all next) before = subst (λ (s : Slot). IsLegal (parts_of system) (noted s (history (slots system n)))) (sym is) before
legal_slot system n slot job (Loses object call is item all spoiled next) before = subst (λ (s : Slot). IsLegal (parts_of system) (noted s (history (slots system n)))) (sym is) before
legal_slot system n slot job (Wins object call is item all calm next) before =
    subst (λ (s : Slot). IsLegal (parts_of system) (noted s (history (slots system n)))) (sym is) (refl, before)

pub legal : (system : System) (n : ℕ) → IsLegal (parts_of system) (history (slots system n))
legal system zero = tt
legal system (suc n) = by_owner (who system n) refl (legal system n)
  where
    by_owner : (o : Option Job) → who system n ≡ o → IsLegal (parts_of system) (history (slots system n)) → IsLegal (parts_of system) (history (slots system (suc n)))
    by_owner None e before = subst (λ (s : Slot). IsLegal (parts_of system) (noted s (history (slots system n)))) (sym (idle_none (slot_at system n) e)) before
    by_owner (Some job) e before = legal_slot system n (slot_at system n) job (own_at system n job e) before

legal_at : (parts : List Part) (later before : List Entry) (entry : Entry) → IsLegal parts (later ++ (entry ∷ before)) → entry ≡ entry_after parts before entry.caller entry.object entry.call
legal_at parts [] before entry h = h.0
legal_at parts (e ∷ later) before entry h = legal_at parts later before entry h.1

swapped : (a b : ℕ) → a + b ≡ b + a
swapped a b = omega arith

pub same_number : (a : ℕ) → (a == a) ≡ true
same_number a = grind (arith, nat_tests)

module _ (system : System) (n : ℕ) (later before : List Entry) (entry : Entry) (is : history (slots system n) ≡ later ++ (entry ∷ before)) where
  made_by : entry ≡ entry_after (parts_of system) before entry.caller entry.object entry.call
  made_by = legal_at (parts_of system) later before entry (subst (IsLegal (parts_of system)) is (legal system n))

  -- the reply of an entry is the table's on the replay of the entries before it
  pub reply_is : entry.reply ≡ (effect (part_at (parts_of system) entry.object) (replay (parts_of system) entry.object before) entry.call).reply
  reply_is = ap (λ (e : Entry). e.reply) made_by

  -- its tag is the number of loud entries of its object up to itself
  pub tag_is : entry.tag ≡ tag_of entry.object (entry ∷ before)
  tag_is =
      ap (λ (e : Entry). e.tag) made_by
      ∙ ap (λ (e : Entry). tag_of entry.object before + (if is_loud e then 1 else 0)) (sym made_by)
      ∙ swapped (tag_of entry.object before) (if is_loud entry then 1 else 0)
      ∙ ap (λ (b : Bool). (if b && is_loud entry then 1 else 0) + tag_of entry.object before) (sym (same_number entry.object))

  -- and its number that of its caller's entries up to itself
  pub number_is : entry.index ≡ calls_of entry.caller (entry ∷ before)
  number_is =
      ap (λ (e : Entry). e.index) made_by
      ∙ swapped (calls_of entry.caller before) 1
      ∙ ap (λ (b : Bool). (if b then 1 else 0) + calls_of entry.caller before) (sym (same_number entry.caller))
