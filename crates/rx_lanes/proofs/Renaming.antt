-- A history whose entries are given those of lists for their callers.
use Rattle.std.proofs.Common.{ℕ, zero, suc, ◌≡◌, ◌≢◌, ◌+◌, ◌<◌, ◌≤◌, Bool, true, false, cond, List, [], ◌∷◌, ◌++◌, length, map, reverse, take, get_or, refl, sym, ap, ap₂, ◌∙◌, subst, inl, inr, arith, length-append, append_assoc, append-nil, ◌==◌}
use Rattle.std.specs.Prelude.{filter}
use Rattle.std.specs.List.{AllByRecursion}
use Rattle.std.proofs.lemmas.Bool.{cases_Bool, eqb-true}
use Rattle.std.proofs.lemmas.List.{length-map, length-reverse, get_or-map, get_or_at, map-append, take_more}
use Rattle.std.proofs.lemmas.List.Elements.{filter-append}
use Rattle.rx_seq.specs.declared.entries.Entry.{Entry}
use Rattle.rx_seq.specs.History.{calls_of}
use Rattle.rx_seq.specs.Legal.{entries_of}
use Rattle.rx_lanes.specs.Lists.{plain}
use Rattle.rx_lanes.specs.Runs.{entries_by}
use Rattle.rx_lanes.proofs.Plain.{is_by, IsBelow, calls_of_length, entries_push}

-- the element after a known front
place : (xs front back : List Entry) (y : Entry) (k : ℕ) (d : Entry) → map plain xs ≡ (front ++ y ∷ back) → length front ≡ k → (k < length xs) × (plain (get_or xs k d) ≡ y)
place xs front back y k d is many =
    let inside : k < length xs = omega (arith, sym (length-map xs plain) ∙ ap length is, length-append front (y ∷ back)) in
    (inside, sym (get_or-map plain xs k d y inside) ∙ ap (λ (zs : List Entry). get_or zs k y) is ∙ get_or_at front y back y k many)

none_at : (p : Entry → Bool) (xs : List Entry) (k : ℕ) (d : Entry) → filter p xs ≡ [] → k < length xs → p (get_or xs k d) ≡ false
none_at p [] k d none inside = absurd (omega arith)
none_at p (x ∷ xs) zero d none inside = elim (cases_Bool (p x)) [
  | inl y ↦ let one : x ∷ filter p xs ≡ [] = rw y at none in absurd (some x (filter p xs) one)
  | inr y ↦ y
]
  where
    some : (z : Entry) (zs : List Entry) → z ∷ zs ≡ [] → ⊥
    some z zs e = cc
none_at p (x ∷ xs) (suc k) d none inside = none_at p xs k d (elim (cases_Bool (p x)) [
  | inl y ↦ let one : x ∷ filter p xs ≡ [] = rw y at none in absurd (some x (filter p xs) one)
  | inr y ↦ rw y at none
]) (omega arith)
  where
    some : (z : Entry) (zs : List Entry) → z ∷ zs ≡ [] → ⊥
    some z zs e = cc

module _ (lists : ℕ → List Entry) where
  -- each entry is the one at its place in the list of its caller
  abbrev pub renamed : List Entry → List Entry
  renamed [] = []
  renamed (e ∷ es) = get_or (lists e.caller) (calls_of e.caller es) e ∷ renamed es

  -- the entries of each caller below a number are the beginning of its list
  abbrev pub Begin : ℕ → List Entry → Type 0
  Begin n es = (caller : ℕ) → caller < n → (rest : List Entry) × (map plain (lists caller) ≡ (map plain (entries_by caller es) ++ rest))

  begin_tail : (n : ℕ) (e : Entry) (es : List Entry) → Begin n (e ∷ es) → Begin n es
  begin_tail n e es h caller below =
      let here = h caller below in (
        map plain (filter (is_by caller) (e ∷ [])) ++ here.0,
        here.1
            ∙ ap (λ (xs : List Entry). map plain xs ++ here.0) (entries_push caller e es)
            ∙ ap (λ (xs : List Entry). xs ++ here.0) (map-append plain (entries_by caller es) (filter (is_by caller) (e ∷ [])))
            ∙ append_assoc (map plain (entries_by caller es)) (map plain (filter (is_by caller) (e ∷ []))) here.0,
      )

  many_by : (caller : ℕ) (es : List Entry) → length (map plain (entries_by caller es)) ≡ calls_of caller es
  many_by caller es = length-map (entries_by caller es) plain ∙ length-reverse (entries_of caller es) ∙ sym (calls_of_length caller es)

  here_is : (n : ℕ) (e : Entry) (es : List Entry) → e.caller < n → Begin n (e ∷ es)
      → (calls_of e.caller es < length (lists e.caller)) × (plain (get_or (lists e.caller) (calls_of e.caller es) e) ≡ plain e)
  here_is n e es below h =
      let begin = h e.caller below in
      let mine : is_by e.caller e ≡ true = Rattle.std.proofs.Common.eq-eqb e.caller e.caller refl in
      let last : map plain (entries_by e.caller (e ∷ es)) ≡ (map plain (entries_by e.caller es) ++ plain e ∷ [])
      = ap (map plain) (entries_push e.caller e es ∙ ap (λ (b : Bool). entries_by e.caller es ++ cond b (e ∷ []) []) mine) ∙ map-append plain (entries_by e.caller es) (e ∷ []) in
      place (lists e.caller) (map plain (entries_by e.caller es)) begin.0 (plain e) (calls_of e.caller es) e
      (begin.1 ∙ ap (λ (xs : List Entry). xs ++ begin.0) last ∙ append_assoc (map plain (entries_by e.caller es)) (plain e ∷ []) begin.0) (many_by e.caller es)

  -- what the calls were and what they answered stays
  pub renamed_plain : (n : ℕ) (es : List Entry) → AllByRecursion (IsBelow n) es → Begin n es → map plain (renamed es) ≡ map plain es
  renamed_plain n [] below h = refl
  renamed_plain n (e ∷ es) below h =
      ap₂ (λ (x : Entry) (xs : List Entry). x ∷ xs) (here_is n e es below.0 h).1 (renamed_plain n es below.1 (begin_tail n e es h))

  -- what holds of all in the lists holds of the entries
  pub renamed_all : (P : Entry → Type 0) → ((caller k : ℕ) (d : Entry) → k < length (lists caller) → P (get_or (lists caller) k d)) → (n : ℕ) (es : List Entry) → AllByRecursion (IsBelow n) es → Begin n es → AllByRecursion P (renamed es)
  renamed_all P all n [] below h = tt
  renamed_all P all n (e ∷ es) below h = (all e.caller (calls_of e.caller es) e (here_is n e es below.0 h).0, renamed_all P all n es below.1 (begin_tail n e es h))

  -- a new caller whose entries stand in one list alone has them in the order of that list
  module _ (n caller mine : ℕ) (others : (other : ℕ) → other < n → (mine == other) ≡ false → filter (is_by caller) (lists other) ≡ []) where
    pub renamed_of : (es : List Entry) → AllByRecursion (IsBelow n) es → Begin n es → reverse (entries_of caller (renamed es)) ≡ filter (is_by caller) (take (calls_of mine es) (lists mine))
    renamed_of [] below h = refl
    renamed_of (e ∷ es) below h =
        let x : Entry = get_or (lists e.caller) (calls_of e.caller es) e in
        let so_far = renamed_of es below.1 (begin_tail n e es h) in
        let here = here_is n e es below.0 h in
        entries_push caller x (renamed es) ∙ ap (λ (xs : List Entry). xs ++ filter (is_by caller) (x ∷ [])) so_far ∙ elim (cases_Bool (mine == e.caller)) [
          | inl y ↦ of_mine e es x refl (eqb-true mine e.caller y) here.0
          | inr y ↦ of_other e es x refl y (none_at (is_by caller) (lists e.caller) (calls_of e.caller es) e (others e.caller below.0 y) here.0)
        ]
      where
        of_mine : (e : Entry) (es : List Entry) (x : Entry) → x ≡ get_or (lists e.caller) (calls_of e.caller es) e → mine ≡ e.caller → calls_of e.caller es < length (lists e.caller)
            → (filter (is_by caller) (take (calls_of mine es) (lists mine)) ++ filter (is_by caller) (x ∷ [])) ≡ filter (is_by caller) (take (calls_of mine (e ∷ es)) (lists mine))
        of_mine e es x is same inside =
            let one : calls_of e.caller (e ∷ es) ≡ calls_of e.caller es + 1 = rw (Rattle.std.proofs.Common.eq-eqb e.caller e.caller refl) (omega arith) in
            let P : ℕ → Type 0 = λ m. (filter (is_by caller) (take (calls_of m es) (lists m)) ++ filter (is_by caller) (x ∷ [])) ≡ filter (is_by caller) (take (calls_of m (e ∷ es)) (lists m)) in
            subst P (sym same) (
            sym (filter-append (is_by caller) (take (calls_of e.caller es) (lists e.caller)) (x ∷ []))
            ∙ ap (filter (is_by caller)) (ap (λ (z : Entry). take (calls_of e.caller es) (lists e.caller) ++ z ∷ []) is ∙ sym (take_more (lists e.caller) (calls_of e.caller es) e inside))
            ∙ ap (λ (k : ℕ). filter (is_by caller) (take k (lists e.caller))) (sym one)
            )

        of_other : (e : Entry) (es : List Entry) (x : Entry) → x ≡ get_or (lists e.caller) (calls_of e.caller es) e → (mine == e.caller) ≡ false → is_by caller (get_or (lists e.caller) (calls_of e.caller es) e) ≡ false
            → (filter (is_by caller) (take (calls_of mine es) (lists mine)) ++ filter (is_by caller) (x ∷ [])) ≡ filter (is_by caller) (take (calls_of mine (e ∷ es)) (lists mine))
        of_other e es x is other none =
            let out : filter (is_by caller) (x ∷ []) ≡ [] = ap (λ (b : Bool). cond b (x ∷ []) []) (ap (is_by caller) is ∙ none) in
            let same : calls_of mine (e ∷ es) ≡ calls_of mine es = rw other (omega arith) in
            ap (λ (xs : List Entry). filter (is_by caller) (take (calls_of mine es) (lists mine)) ++ xs) out ∙ append-nil (filter (is_by caller) (take (calls_of mine es) (lists mine)))
            ∙ ap (λ (k : ℕ). filter (is_by caller) (take k (lists mine))) (sym same)
