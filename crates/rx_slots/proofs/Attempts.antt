-- Attempts on objects: their slots and their outcomes.
use Rattle.std.proofs.Common.{ℕ, zero, suc, ◌≡◌, ◌≢◌, ◌≤◌, ◌<◌, ◌+◌, ◌==◌, ◌&&◌, ◌||◌, ◌⊎◌, inl, inr, nat_lt, Bool, true, false, if◌then◌else◌, length, Option, Some, None, refl, sym, ◌∙◌, ap, arith, subst}
use Rattle.std.proofs.Math.Decide.{dec_le}
use Rattle.std.proofs.lemmas.Bool.{false≢true, lt-ltb, ltb-true}
use Rattle.std.proofs.lemmas.Bool.Decides.{nat_tests}
use Rattle.rx_seq.specs.declared.calls.Call.{Call}
use Rattle.rx_seq.specs.declared.entries.Entry.{Entry}
use Rattle.rx_seq.specs.History.{entry_after}
use Rattle.rx_set.specs.declared.items.Item.TheVariants.{Op}
use Rattle.rx_set.specs.declared.jobs.Job.{Job}
use Rattle.rx_set.specs.System.{System, parts_of, item_at, attempt_cost}
use Rattle.rx_slots.specs.Schedule.{Slot, Busy, Decide, Progress, ticked, job_in, history, wins_on, won_after, slots, slot_at}
use Rattle.rx_slots.specs.Laws.{who, so_far, owned, slots_of, IsAmid, IsSpoiled}
use Rattle.rx_slots.proofs.Prefixes.{slots_count}
use Rattle.rx_slots.proofs.Choices.{both}
use Rattle.rx_slots.proofs.Steps.{IsOwn, Goes, Works, Loses, Wins, own_at, slot_rule, same_self}
use Rattle.rx_slots.proofs.Shares.{cost_some}

-- what a job has in hand before slot n was begun in one of its slots, and all its slots since then are in hand
pub record IsBegun (system : System) (job : Job) (n : ℕ) (p : Progress) : Type 0 where
  pub before : p.first < n
  pub begins : slot_at system p.first ≡ Busy job
  pub fresh : (so_far system job p.first).made ≡ 0
  pub item : (so_far system job p.first).complete ≡ p.complete
  pub counts : slots_of job (slots system n) ≡ slots_of job (slots system p.first) + p.made

one_slot : (system : System) (job : Job) (n : ℕ) → who system n ≡ Some job → slots_of job (slots system (suc n)) ≡ slots_of job (slots system n) + 1
one_slot system job n mine = ap (λ (k : ℕ). slots_of job (slots system n) + k) (ap (owned job) mine ∙ ap (λ (b : Bool). if b then 1 else 0) (same_self job))

begun_more : (system : System) (job : Job) (n m : ℕ) (p : Progress) → who system n ≡ Some job → slot_at system n ≡ Busy job → m ≡ n → p ≡ so_far system job n
    → (1 ≤ p.made → IsBegun system job n p) → IsBegun system job (suc n) (ticked m p)
begun_more system job n m p mine is same_time same_progress before = by_test (p.made == 0) refl
  where
    here : p.made ≡ 0 → IsBegun system job (suc n) (record { complete = p.complete; made = p.made + 1; first = m })
    here none =
        let made_none : (so_far system job n).made ≡ 0 = sym (ap (λ (q : Progress). q.made) same_progress) ∙ none in
        let counted : slots_of job (slots system m) ≡ slots_of job (slots system n) = ap (λ (k : ℕ). slots_of job (slots system k)) same_time in
        record {
          before = omega arith;
          begins = ap (slot_at system) same_time ∙ is;
          fresh = ap (λ (k : ℕ). (so_far system job k).made) same_time ∙ made_none;
          item = ap (λ (k : ℕ). (so_far system job k).complete) same_time ∙ ap (λ (q : Progress). q.complete) (sym same_progress);
          counts = omega (arith, one_slot system job n mine, counted);
        }

    there : IsBegun system job n p → IsBegun system job (suc n) (record { complete = p.complete; made = p.made + 1; first = p.first })
    there h = record { before = omega (arith, h.before); begins = h.begins; fresh = h.fresh; item = h.item; counts = omega (arith, one_slot system job n mine, h.counts) }

    by_test : (b : Bool) → (p.made == 0) ≡ b → IsBegun system job (suc n) (record { complete = p.complete; made = p.made + 1; first = if b then m else p.first })
    by_test true e = let none : p.made ≡ 0 = grind (arith, nat_tests) in here none
    by_test false e = let some : 1 ≤ p.made = grind (arith, nat_tests) in there (before some)

-- of what is in hand after a slot
abbrev IsHeld : System → Job → ℕ → Progress → Type 0
IsHeld system job n p = 1 ≤ p.made → IsBegun system job n p

held_other : (system : System) (job : Job) (n : ℕ) (p : Progress) → owned job (who system n) ≡ 0 → IsHeld system job n p → IsHeld system job (suc n) p
held_other system job n p none before = λ some.
    let h : IsBegun system job n p = before some in
    record { before = omega (arith, h.before); begins = h.begins; fresh = h.fresh; item = h.item; counts = omega (arith, h.counts, none) }

pub held : (system : System) (job : Job) (n : ℕ) → IsHeld system job n (so_far system job n)
held system job zero = λ some. absurd (omega arith)
held system job (suc n) =
    slot_rule (IsHeld system job (suc n)) system n job
    (λ not_mine none. held_other system job n (so_far system job n) none (held system job n))
    (λ mine is some more. begun_more system job n (length (slots system n)) (so_far system job n) mine is (slots_count system n) refl (held system job n))
    (λ mine more. absurd (omega arith))
    (λ mine more. absurd (omega arith))

-- and in each of its slots since the first it goes on
abbrev GoesOnSince : System → Job → ℕ → Progress → Type 0
GoesOnSince system job n p = 1 ≤ p.made → (m : ℕ) → p.first < m → m < n → who system m ≡ Some job → IsAmid system job p.first p.complete m

since_more : (system : System) (job : Job) (n : ℕ) (p : Progress) → slot_at system n ≡ Busy job → p ≡ so_far system job n → (1 ≤ p.made → IsBegun system job n p) → GoesOnSince system job n p
    → GoesOnSince system job (suc n) (ticked n p)
since_more system job n p is same_progress begun before = by_test (p.made == 0) refl
  where
    none_between : (m : ℕ) → n < m → m < suc n → ⊥
    none_between m h k = absurd (omega arith)

    here : 1 ≤ p.made → IsAmid system job p.first p.complete n
    here some = record {
      busy = is;
      item = ap (λ (q : Progress). q.complete) (sym same_progress);
      begins = ap (λ (q : Progress). q.first) (sym same_progress);
      some = subst (λ (q : Progress). 1 ≤ q.made) same_progress some;
      made = (begun some).counts ∙ ap (λ (q : Progress). slots_of job (slots system p.first) + q.made) same_progress;
    }

    by_time : 1 ≤ p.made → (m : ℕ) → p.first < m → m < suc n → who system m ≡ Some job → IsAmid system job p.first p.complete m
    by_time some m after early mine = elim (dec_le n m) [
      | yes now ↦ let same_time : n ≡ m = omega arith in subst (IsAmid system job p.first p.complete) same_time (here some)
      | no earlier ↦ before some m after (omega arith) mine
    ]

    by_test : (b : Bool) → (p.made == 0) ≡ b → GoesOnSince system job (suc n) (record { complete = p.complete; made = p.made + 1; first = if b then n else p.first })
    by_test true e = λ more m after early mine. absurd (none_between m after early)
    by_test false e = let some : 1 ≤ p.made = grind (arith, nat_tests) in λ more. by_time some

since_other : (system : System) (job : Job) (n : ℕ) (p : Progress) → who system n ≢ Some job → GoesOnSince system job n p → GoesOnSince system job (suc n) p
since_other system job n p not_mine before = λ some m after early mine. elim (dec_le n m) [
  | yes now ↦ let same_time : m ≡ n = omega arith in absurd (not_mine (subst (λ (k : ℕ). who system k ≡ Some job) same_time mine))
  | no earlier ↦ before some m after (omega arith) mine
]

goes_on_since : (system : System) (job : Job) (n : ℕ) → GoesOnSince system job n (so_far system job n)
goes_on_since system job zero = λ some. absurd (omega arith)
goes_on_since system job (suc n) =
    slot_rule (GoesOnSince system job (suc n)) system n job
    (λ not_mine none. since_other system job n (so_far system job n) not_mine (goes_on_since system job n))
    (λ mine is some. subst (λ (k : ℕ). GoesOnSince system job (suc n) (ticked k (so_far system job n))) (sym (slots_count system n)) (since_more system job n (so_far system job n) is refl (held system job n) (goes_on_since system job n)))
    (λ mine more. absurd (omega arith))
    (λ mine more. absurd (omega arith))

-- what a slot that decides an attempt says
pub record IsDecision (system : System) (n : ℕ) (job : Job) (object : ℕ) (outcome : Option Entry) : Type 0 where
  pub owner : who system n ≡ Some job
  pub call : Call
  pub asks : item_at system job (so_far system job n).complete ≡ Some (Op object call)
  pub made : (so_far system job n).made + 1 ≡ attempt_cost system object
  pub makes : (entry : Entry) → outcome ≡ Some entry → entry ≡ entry_after (parts_of system) (history (slots system n)) job.task object call
  pub lost : outcome ≡ None → won_after object (so_far system job n).first (slots system n) ≡ true
  pub spoiled : won_after object (so_far system job n).first (slots system n) ≡ true → outcome ≡ None

not_busy : (mine job : Job) (object : ℕ) (outcome : Option Entry) (slot : Slot) → slot ≡ Decide job object outcome → slot ≡ Busy mine → ⊥
not_busy mine job object outcome slot e f = cc

not_won : (entry : Entry) (outcome : Option Entry) → outcome ≡ Some entry → outcome ≡ None → ⊥
not_won entry outcome e f = cc

pub decision_is : (system : System) (n : ℕ) (job : Job) (object : ℕ) (outcome : Option Entry) → slot_at system n ≡ Decide job object outcome → IsDecision system n job object outcome
decision_is system n job object outcome e = by_own (slot_at system n) e (own_at system n job mine)
  where
    mine : who system n ≡ Some job
    mine = ap job_in e

    by_own : (slot : Slot) → slot ≡ Decide job object outcome → IsOwn system (slots system n) job slot → IsDecision system n job object outcome
    by_own slot e (Goes is some next) = absurd (not_busy job job object outcome slot e is)
    by_own slot e (Works is all next) = absurd (not_busy job job object outcome slot e is)
    by_own slot e (Loses other call is item all spoiled next) =
        let object_is : other ≡ object = cc in
        let none : outcome ≡ None = cc in
        record {
          owner = mine;
          call = call;
          asks = item ∙ ap (λ (o : ℕ). Some (Op o call)) object_is;
          made = all ∙ ap (attempt_cost system) object_is;
          makes = λ entry h. absurd (not_won entry outcome h none);
          lost = λ h. ap (λ (o : ℕ). won_after o (so_far system job n).first (slots system n)) (sym object_is) ∙ spoiled;
          spoiled = λ h. none;
        }
    by_own slot e (Wins other call is item all calm next) =
        let object_is : other ≡ object = cc in
        let entry : Entry = entry_after (parts_of system) (history (slots system n)) job.task other call in
        let some : outcome ≡ Some entry = cc in
        record {
          owner = mine;
          call = call;
          asks = item ∙ ap (λ (o : ℕ). Some (Op o call)) object_is;
          made = all ∙ ap (attempt_cost system) object_is;
          makes = λ made h. let one : made ≡ entry = cc in one ∙ ap (λ (o : ℕ). entry_after (parts_of system) (history (slots system n)) job.task o call) object_is;
          lost = λ h. absurd (not_won entry outcome some h);
          spoiled = λ h. absurd (false≢true (sym calm ∙ ap (λ (o : ℕ). won_after o (so_far system job n).first (slots system n)) object_is ∙ h));
        }

-- an entry is the one that its job's item makes after those before it
pub record IsMade (system : System) (n : ℕ) (job : Job) (object : ℕ) (entry : Entry) : Type 0 where
  pub caller : entry.caller ≡ job.task
  pub object_is : entry.object ≡ object
  pub asks : item_at system job (so_far system job n).complete ≡ Some (Op object entry.call)

pub entry_made : (system : System) (n : ℕ) (job : Job) (object : ℕ) (entry : Entry) → slot_at system n ≡ Decide job object (Some entry) → IsMade system n job object entry
entry_made system n job object entry e =
    let is = decision_is system n job object (Some entry) e in
    let made = is.makes entry refl in
    record {
      caller = ap (λ (x : Entry). x.caller) made;
      object_is = ap (λ (x : Entry). x.object) made;
      asks = is.asks ∙ ap (λ (x : Entry). Some (Op object x.call)) (sym made);
    }

-- an attempt that is decided was in hand
pub decided_begun : (system : System) (n : ℕ) (job : Job) (object : ℕ) (outcome : Option Entry) → slot_at system n ≡ Decide job object outcome → IsBegun system job n (so_far system job n)
decided_begun system n job object outcome e = held system job n (omega (arith, (decision_is system n job object outcome e).made, cost_some system object))

pub decided_amid : (system : System) (m n : ℕ) (job : Job) (object : ℕ) (outcome : Option Entry) → slot_at system n ≡ Decide job object outcome → (so_far system job n).first < m → m < n → who system m ≡ Some job
    → IsAmid system job (so_far system job n).first (so_far system job n).complete m
decided_amid system m n job object outcome e = goes_on_since system job n (omega (arith, (decision_is system n job object outcome e).made, cost_some system object)) m

-- it has as many slots of its job as an attempt takes, from its first to this one
pub decided_cost : (system : System) (n : ℕ) (job : Job) (object : ℕ) (outcome : Option Entry) → slot_at system n ≡ Decide job object outcome
    → slots_of job (slots system (suc n)) ≡ slots_of job (slots system (so_far system job n).first) + attempt_cost system object
decided_cost system n job object outcome e =
    let is = decision_is system n job object outcome e in
    let begun = decided_begun system n job object outcome e in
    omega (arith, one_slot system job n is.owner, begun.counts, is.made)

or_cases : (a b : Bool) → (a || b) ≡ true → (a ≡ true) ⊎ (b ≡ true)
or_cases true b e = inl refl
or_cases false b e = inr e

or_right : (a b : Bool) → b ≡ true → (a || b) ≡ true
or_right true b e = refl
or_right false b e = e

-- a win after a slot, by its number
pub won_at : (system : System) (object first n : ℕ) → won_after object first (slots system n) ≡ true → IsSpoiled system object first n
won_at system object first zero e = absurd (false≢true e)
won_at system object first (suc n) e =
    elim (or_cases (wins_on object (slot_at system n) && nat_lt first (length (slots system n))) (won_after object first (slots system n)) e) [
      | inl here ↦
          let parts = both (wins_on object (slot_at system n)) (nat_lt first (length (slots system n))) here in
          let counted : length (slots system n) ≡ n = slots_count system n in
          let later : first < length (slots system n) = ltb-true first (length (slots system n)) parts.1 in
          record { at = n; after = omega arith; before = omega arith; wins = parts.0 }
      | inr earlier ↦ let h = won_at system object first n earlier in record { at = h.at; after = h.after; before = omega (arith, h.before); wins = h.wins }
    ]

pub won_from : (system : System) (object first n : ℕ) → IsSpoiled system object first n → won_after object first (slots system n) ≡ true
won_from system object first zero h = absurd (omega (arith, h.before))
won_from system object first (suc n) h = elim (dec_le n h.at) [
  | yes now ↦
      let same_time : h.at ≡ n = omega (arith, h.before) in
      let wins : wins_on object (slot_at system n) ≡ true = subst (λ (t : ℕ). wins_on object (slot_at system t) ≡ true) same_time h.wins in
      let later : nat_lt first (length (slots system n)) ≡ true = lt-ltb first (length (slots system n)) (omega (arith, h.after, slots_count system n)) in
      ap (λ (b : Bool). (b && nat_lt first (length (slots system n))) || won_after object first (slots system n)) wins
      ∙ ap (λ (b : Bool). b || won_after object first (slots system n)) later
  | no before ↦
      or_right (wins_on object (slot_at system n) && nat_lt first (length (slots system n))) (won_after object first (slots system n))
      (won_from system object first n (record { at = h.at; after = h.after; before = omega arith; wins = h.wins }))
]

-- an attempt is lost where one on its object won in between, and raised its tag, and only there
pub lost_spoiled : (system : System) (n : ℕ) (job : Job) (object : ℕ) (outcome : Option Entry) → slot_at system n ≡ Decide job object outcome → outcome ≡ None → IsSpoiled system object (so_far system job n).first n
lost_spoiled system n job object outcome e none = won_at system object (so_far system job n).first n ((decision_is system n job object outcome e).lost none)

pub spoiled_lost : (system : System) (n : ℕ) (job : Job) (object : ℕ) (outcome : Option Entry) → slot_at system n ≡ Decide job object outcome → IsSpoiled system object (so_far system job n).first n → outcome ≡ None
spoiled_lost system n job object outcome e spoiled = (decision_is system n job object outcome e).spoiled (won_from system object (so_far system job n).first n spoiled)
