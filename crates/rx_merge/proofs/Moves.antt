-- In a legal history quiet entries leave each object as it is, so an entry may go before those that it has nothing to do with.
use Rattle.std.proofs.Common.{ℕ, ◌≡◌, ◌+◌, ◌<◌, ◌≤◌, Bool, true, false, cond, ◌&&◌, List, [], ◌∷◌, ◌++◌, subst, refl, sym, ap, ◌∙◌, inl, inr, arith, append_assoc}
use Rattle.std.specs.Prelude.{◌==◌, filter, IsPermutation}
use Rattle.std.specs.List.{All, AllByRecursion}
use Rattle.std.proofs.lemmas.Bool.{cases_Bool, cases_eq, cases_lt, eqb-true, eq-eqb, ne_eqb, not-false}
use Rattle.std.proofs.lemmas.List.Elements.{All-cons, All-head, All-tail}
use Rattle.rx_seq.specs.declared.calls.Call.{Call}
use Rattle.rx_seq.specs.declared.kinds.Part.{Part}
use Rattle.rx_seq.specs.declared.entries.Entry.{Entry}
use Rattle.rx_seq.specs.Table.{IsPart, effect, fits_part}
use Rattle.rx_seq.specs.Quiet.{is_quiet}
use Rattle.rx_seq.specs.History.{is_loud, no_part, part_at, replay, tag_of}
use Rattle.rx_seq.specs.Legal.{IsLegal}
use Rattle.rx_seq.specs.States.{IsState, IsFitting}
use Rattle.rx_merge.specs.Merged.{entries_on, louds_on}
use Rattle.rx_merge.proofs.Filters.{is_of}

-- the laws of the table that this rests on: a quiet call leaves the state equal, and a replay is a state
abbrev pub QuietStays : Type 0
QuietStays = (part : Part) (state : List ℕ) (call : Call) → IsState part state → fits_part part call ≡ true → is_quiet call (effect part state call).reply ≡ true → (effect part state call).state ≡ state

abbrev pub ReplayIsState : Type 0
ReplayIsState = (parts : List Part) (object : ℕ) (history : List Entry) → IsPart (part_at parts object) → All (IsFitting parts) history → IsState (part_at parts object) (replay parts object history)

-- no object can tell these entries apart
pub record Alike (parts : List Part) (xs ys : List Entry) : Type 0 where
  pub tag : (object : ℕ) → tag_of object xs ≡ tag_of object ys
  pub state : (object : ℕ) → replay parts object xs ≡ replay parts object ys

alike_itself : (parts : List Part) (xs : List Entry) → Alike parts xs xs
alike_itself parts xs = record { tag = λ object. refl; state = λ object. refl }

alike_back : (parts : List Part) (xs ys : List Entry) → Alike parts xs ys → Alike parts ys xs
alike_back parts xs ys a = record { tag = λ object. sym (a.tag object); state = λ object. sym (a.state object) }

alike_then : (parts : List Part) (xs ys zs : List Entry) → Alike parts xs ys → Alike parts ys zs → Alike parts xs zs
alike_then parts xs ys zs a b = record { tag = λ object. a.tag object ∙ b.tag object; state = λ object. a.state object ∙ b.state object }

alike_more : (parts : List Part) (e : Entry) (xs ys : List Entry) → Alike parts xs ys → Alike parts (e ∷ xs) (e ∷ ys)
alike_more parts e xs ys a = record {
  tag = λ object. ap (λ n. cond {A = ℕ} ((object == e.object) && is_loud e) 1 0 + n) (a.tag object);
  state = λ object. ap (λ s. cond {A = List ℕ} (object == e.object) ((effect (part_at parts object) s e.call).state) s) (a.state object);
}

pub legal_tail : (parts : List Part) (first : ℕ) (newer older : List Entry) → IsLegal parts first (newer ++ older) → IsLegal parts first older
legal_tail parts first [] older legal = legal
legal_tail parts first (e ∷ newer) older legal = legal_tail parts first newer older legal.2

-- an entry on entries that its object cannot tell apart
legal_on : (parts : List Part) (first : ℕ) (e : Entry) (xs ys : List Entry) → tag_of e.object xs ≡ tag_of e.object ys → replay parts e.object xs ≡ replay parts e.object ys → IsLegal parts first (e ∷ xs) → IsLegal parts first ys → IsLegal parts first (e ∷ ys)
legal_on parts first e xs ys tags states legal before =
    let tag : e.tag ≡ first + tag_of e.object (e ∷ ys) = omega (arith, legal.0) in
    let reply : e.reply ≡ (effect (part_at parts e.object) (replay parts e.object ys) e.call).reply = rw states at legal.1 in
    (tag, reply, before)

legal_alike : (parts : List Part) (first : ℕ) (e : Entry) (xs ys : List Entry) → Alike parts xs ys → IsLegal parts first (e ∷ xs) → IsLegal parts first ys → IsLegal parts first (e ∷ ys)
legal_alike parts first e xs ys a legal before = legal_on parts first e xs ys (a.tag e.object) (a.state e.object) legal before

legal_behind : (parts : List Part) (first : ℕ) (newer xs ys : List Entry) → Alike parts xs ys → IsLegal parts first (newer ++ xs) → IsLegal parts first ys → IsLegal parts first (newer ++ ys) × Alike parts (newer ++ xs) (newer ++ ys)
legal_behind parts first [] xs ys a legal before = (before, a)
legal_behind parts first (e ∷ newer) xs ys a legal before =
    let rest = legal_behind parts first newer xs ys a legal.2 before in
    (legal_alike parts first e (newer ++ xs) (newer ++ ys) rest.1 legal rest.0, alike_more parts e (newer ++ xs) (newer ++ ys) rest.1)

-- an entry has nothing to do with another that is on another object, or if both are quiet
abbrev pub IsApart : Entry → Entry → Type 0
IsApart e x = e.object ≡ x.object → (is_loud e ≡ false) × (is_loud x ≡ false)

-- entries of other objects
tag_other : (object : ℕ) (x : Entry) (es : List Entry) → (object ≡ x.object → ⊥) → tag_of object (x ∷ es) ≡ tag_of object es
tag_other object x es other = rw (ne_eqb object x.object other) (omega arith)

replay_other : (parts : List Part) (object : ℕ) (x : Entry) (es : List Entry) → (object ≡ x.object → ⊥) → replay parts object (x ∷ es) ≡ replay parts object es
replay_other parts object x es other = rw (ne_eqb object x.object other) refl

fitting_tail : (parts : List Part) (newer older : List Entry) → All (IsFitting parts) (newer ++ older) → All (IsFitting parts) older
fitting_tail parts [] older all = all
fitting_tail parts (e ∷ newer) older all = fitting_tail parts newer older (All-tail (IsFitting parts) e (newer ++ older) all)

module _ (stays : QuietStays) (kept : ReplayIsState) (parts : List Part) (limits : All IsPart parts) where
  -- a quiet entry changes nothing
  quiet_alike : (x : Entry) (es : List Entry) → IsLegal parts 0 (x ∷ es) → All (IsFitting parts) (x ∷ es) → is_loud x ≡ false → Alike parts (x ∷ es) es
  quiet_alike x es legal fitting quiet =
      let fits = All-head (IsFitting parts) x es fitting in
      let state = kept parts x.object es (limits x.object no_part fits.exists) (All-tail (IsFitting parts) x es fitting) in
      let told : is_quiet x.call (effect (part_at parts x.object) (replay parts x.object es) x.call).reply ≡ true = subst (λ reply. is_quiet x.call reply ≡ true) legal.1 (not-false (is_quiet x.call x.reply) quiet) in
      let equal = stays (part_at parts x.object) (replay parts x.object es) x.call state fits.fits told in
      record {
        tag = λ object. elim (cases_Bool (object == x.object)) [
          | inl y ↦ rw (y, quiet) (omega arith)
          | inr y ↦ rw y (omega arith)
        ];
        state = λ object. elim (cases_Bool (object == x.object)) [
          | inl y ↦ rw y (subst (λ o. (effect (part_at parts o) (replay parts o es) x.call).state ≡ replay parts o es) (sym (eqb-true object x.object y)) equal)
          | inr y ↦ rw y refl
        ];
      }

  -- two neighbours change places
  swapped : (e x : Entry) (es : List Entry) → IsLegal parts 0 (e ∷ x ∷ es) → All (IsFitting parts) (e ∷ x ∷ es) → IsApart e x → IsLegal parts 0 (x ∷ e ∷ es) × Alike parts (e ∷ x ∷ es) (x ∷ e ∷ es)
  swapped e x es legal fitting apart =
      let fitting_x : All (IsFitting parts) (x ∷ es) = All-tail (IsFitting parts) e (x ∷ es) fitting in
      let fitting_e : All (IsFitting parts) (e ∷ es) = All-cons (IsFitting parts) e es (All-head (IsFitting parts) e (x ∷ es) fitting) (All-tail (IsFitting parts) x es fitting_x) in
      elim (cases_eq e.object x.object) [
        | inl same ↦
            let quiet = apart same in
            let x_alike = quiet_alike x es legal.2 fitting_x quiet.1 in
            let e_legal : IsLegal parts 0 (e ∷ es) = legal_alike parts 0 e (x ∷ es) es x_alike legal legal.2.2 in
            let e_alike = quiet_alike e es e_legal fitting_e quiet.0 in
            let x_legal : IsLegal parts 0 (x ∷ e ∷ es) = legal_alike parts 0 x es (e ∷ es) (alike_back parts (e ∷ es) es e_alike) legal.2 e_legal in
            let one = alike_then parts (e ∷ x ∷ es) (e ∷ es) es (alike_more parts e (x ∷ es) es x_alike) e_alike in
            let other = alike_then parts (x ∷ e ∷ es) (x ∷ es) es (alike_more parts x (e ∷ es) es e_alike) x_alike in
            (x_legal, alike_then parts (e ∷ x ∷ es) es (x ∷ e ∷ es) one (alike_back parts (x ∷ e ∷ es) es other))
        | inr other ↦
            let back : x.object ≡ e.object → ⊥ = λ same. other (sym same) in
            let e_legal : IsLegal parts 0 (e ∷ es) = legal_on parts 0 e (x ∷ es) es (tag_other e.object x es other) (replay_other parts e.object x es other) legal legal.2.2 in
            let x_legal : IsLegal parts 0 (x ∷ e ∷ es) = legal_on parts 0 x es (e ∷ es) (sym (tag_other x.object e es back)) (sym (replay_other parts x.object e es back)) legal.2 e_legal in (
              x_legal,
              record {
                tag = λ object. omega arith;
                state = λ object. elim (cases_Bool (object == e.object)) [
                  | inl y ↦ let not_x : (object == x.object) ≡ false = ne_eqb object x.object (λ same. other (sym (eqb-true object e.object y) ∙ same)) in rw (y, not_x) refl
                  | inr y ↦ rw y refl
                ];
              },
            )
      ]

  -- an entry goes before older ones that it has nothing to do with
  passed : (e : Entry) (older taken : List Entry) → IsLegal parts 0 (e ∷ (older ++ taken)) → All (IsFitting parts) (e ∷ (older ++ taken)) → AllByRecursion (IsApart e) older → IsLegal parts 0 (older ++ e ∷ taken) × Alike parts (e ∷ (older ++ taken)) (older ++ e ∷ taken)
  passed e [] taken legal fitting apart = (legal, alike_itself parts (e ∷ taken))
  passed e (x ∷ older) taken legal fitting apart =
      let swap = swapped e x (older ++ taken) legal fitting apart.0 in
      let fitting_x : All (IsFitting parts) (x ∷ (older ++ taken)) = All-tail (IsFitting parts) e (x ∷ (older ++ taken)) fitting in
      let fitting_e : All (IsFitting parts) (e ∷ (older ++ taken)) = All-cons (IsFitting parts) e (older ++ taken) (All-head (IsFitting parts) e (x ∷ (older ++ taken)) fitting) (All-tail (IsFitting parts) x (older ++ taken) fitting_x) in
      let rest = passed e older taken swap.0.2 fitting_e apart.1 in (
        legal_alike parts 0 x (e ∷ (older ++ taken)) (older ++ e ∷ taken) rest.1 swap.0 rest.0,
        alike_then parts (e ∷ x ∷ (older ++ taken)) (x ∷ e ∷ (older ++ taken)) (x ∷ (older ++ e ∷ taken)) swap.1 (alike_more parts x (e ∷ (older ++ taken)) (older ++ e ∷ taken) rest.1),
      )

  pub legal_moved : (newer older taken : List Entry) (e : Entry) → IsLegal parts 0 (newer ++ e ∷ (older ++ taken)) → All (IsFitting parts) (newer ++ e ∷ (older ++ taken)) → AllByRecursion (IsApart e) older → IsLegal parts 0 ((newer ++ older) ++ e ∷ taken)
  legal_moved newer older taken e legal fitting apart =
      let rest = passed e older taken (legal_tail parts 0 newer (e ∷ (older ++ taken)) legal) (fitting_tail parts newer (e ∷ (older ++ taken)) fitting) apart in
      let all = legal_behind parts 0 newer (e ∷ (older ++ taken)) (older ++ e ∷ taken) rest.1 legal rest.0 in
      subst (IsLegal parts 0) (sym (append_assoc newer older (e ∷ taken))) all.0

  -- an object's state is what its loud entries make of it
  pub replay_of_louds : (object : ℕ) (es : List Entry) → IsLegal parts 0 es → All (IsFitting parts) es → replay parts object es ≡ replay parts object (louds_on object es)
  replay_of_louds object [] legal fitting = refl
  replay_of_louds object (e ∷ es) legal fitting =
      let before = replay_of_louds object es legal.2 (All-tail (IsFitting parts) e es fitting) in
      elim (cases_Bool (object == e.object)) [
        | inr y ↦ rw y before
        | inl y ↦ elim (cases_Bool (is_loud e)) [
          | inl loud ↦ let more : louds_on object (e ∷ es) ≡ e ∷ louds_on object es = rw y (rw loud refl) in rw more (rw y (ap (λ s. (effect (part_at parts object) s e.call).state) before))
          | inr quiet ↦ let none : louds_on object (e ∷ es) ≡ louds_on object es = rw y (rw quiet refl) in (quiet_alike e es legal fitting quiet).state object ∙ before ∙ ap (replay parts object) (sym none)
        ]
      ]

-- the same entries, in one order of each caller, and of the loud ones on each object
pub record Same (xs ys : List Entry) : Type 0 where
  pub of : (caller : ℕ) → filter (is_of caller) xs ≡ filter (is_of caller) ys
  pub loud : (object : ℕ) → louds_on object xs ≡ louds_on object ys
  pub on : (object : ℕ) → IsPermutation (entries_on object xs) (entries_on object ys)
  pub all : IsPermutation xs ys

-- numbers of entries that are below a bound, by what is left of the others
module _ (number : Entry → ℕ) (bound : ℕ) where
  abbrev pub is_at : ℕ → Entry → Bool
  is_at n entry = n == number entry

  pub none_past : (es : List Entry) → AllByRecursion (λ e. number e < bound) es → (n : ℕ) → bound ≤ n → filter (is_at n) es ≡ []
  none_past [] below n h = refl
  none_past (e ∷ es) below n h = let here = below.0 in rw (ne_eqb n (number e) (λ same. omega arith)) (none_past es below.1 n h)

  pub all_below : (es : List Entry) → ((n : ℕ) → bound ≤ n → filter (is_at n) es ≡ []) → AllByRecursion (λ e. number e < bound) es
  all_below [] none = tt
  all_below (e ∷ es) none = (
    elim (cases_lt (number e) bound) [
      | inl h ↦ h
      | inr h ↦ let one : e ∷ filter (is_at (number e)) es ≡ [] = rw (eq-eqb (number e) (number e) refl) at (none (number e) h) in cc
    ],
    all_below es (λ n h. elim (cases_Bool (n == number e)) [
      | inl y ↦ let one : e ∷ filter (is_at n) es ≡ [] = rw y at (none n h) in cc
      | inr y ↦ rw y at (none n h)
    ]),
  )
