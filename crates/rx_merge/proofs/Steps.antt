-- The merged order is never stuck, and what is left with what is taken is always a history of the same entries.
use Rattle.std.proofs.Common.{ℕ, zero, suc, ◌≡◌, ◌+◌, ◌<◌, ◌≤◌, ◌⊎◌, subst, Bool, true, false, not, cond, ◌&&◌, List, [], ◌∷◌, ◌++◌, length, reverse, drop, refl, sym, ap, ◌∙◌, inl, inr, arith, append_assoc, append-nil, length-append}
use Rattle.std.specs.Prelude.{◌==◌, filter, IsPermutation, Option, Some, None}
use Rattle.std.specs.List.{All, AllByRecursion, list_all}
use Rattle.std.proofs.lemmas.Bool.{and_left, and_parts, and_right, cases_Bool, cases_lt, eqb-true, eq-eqb, ne_eqb, not-true}
use Rattle.std.proofs.lemmas.List.{drop_at, length-reverse, nil_from_length, reverse-append, reverse-reverse}
use Rattle.std.proofs.lemmas.List.Elements.{filter-append}
use Rattle.std.proofs.lemmas.List.Sorted.{All-permutation, IsPermutation-refl, IsPermutation-sym, IsPermutation-trans, length_permutation}
use Rattle.std.proofs.lemmas.Option.{none-some, same_Some}
use Rattle.rx_seq.specs.declared.kinds.Part.{Part}
use Rattle.rx_seq.specs.declared.entries.Entry.{Entry}
use Rattle.rx_seq.specs.History.{is_loud, tag_of, calls_of}
use Rattle.rx_seq.specs.Legal.{IsLegal}
use Rattle.rx_seq.specs.States.{IsFitting}
use Rattle.rx_merge.specs.Merged.{is_on, entries_on, louds_on, AreOf, list_at, next_of, left_of, is_quiet_at, none_waits, is_ready, if_ready, ready_of, or_else, first_below, first_ready, with_next, merged_to}
use Rattle.rx_merge.specs.MergeState.{is_loud_on}
use Rattle.rx_merge.proofs.Filters.{is_of, entries_of_filter, calls_of_length, louds_filter, tag_of_append, tag_of_louds, Split, split_last, moved, moved_all, moved_same, reverse_at, reverse_past, each_append, each_older, each_newer, each_reverse, each_of, each_from}
use Rattle.rx_merge.proofs.Moves.{QuietStays, ReplayIsState, IsApart, Same, legal_tail, legal_moved, none_past, all_below}

same_itself : (xs : List Entry) → Same xs xs
same_itself xs = record { of = λ caller. refl; loud = λ object. refl; on = λ object. IsPermutation-refl (entries_on object xs); all = IsPermutation-refl xs }

same_then : (xs ys zs : List Entry) → Same xs ys → Same ys zs → Same xs zs
same_then xs ys zs a b = record {
  of = λ caller. a.of caller ∙ b.of caller;
  loud = λ object. a.loud object ∙ b.loud object;
  on = λ object. IsPermutation-trans (entries_on object xs) (entries_on object ys) (entries_on object zs) (a.on object) (b.on object);
  all = IsPermutation-trans xs ys zs a.all b.all;
}

-- lists of a history are those of each other legal one with the same entries
pub same_are : (parts : List Part) (objects : ℕ) (lists : List (List Entry)) (xs ys : List Entry) → Same xs ys → IsLegal parts 0 xs → AreOf parts objects lists ys → AreOf parts objects lists xs
same_are parts objects lists xs ys same legal are = record {
  legal = legal;
  limits = are.limits;
  fitting = All-permutation (IsFitting parts) ys xs (IsPermutation-sym xs ys same.all) are.fitting;
  own = λ caller h. are.own caller h ∙ ap (λ es. reverse es) (entries_of_filter caller ys ∙ sym (same.of caller) ∙ sym (entries_of_filter caller xs));
  callers = all_below (λ e. e.caller) (length lists) xs (λ n h. same.of n ∙ none_past (λ e. e.caller) (length lists) ys are.callers n h);
  known = all_below (λ e. e.object) objects xs (λ n h. nil_from_length (entries_on n xs) (sym (length_permutation (entries_on n xs) (entries_on n ys) (same.on n)) ∙ ap (λ es. length es) (none_past (λ e. e.object) objects ys are.known n h)));
}

-- an entry is no quiet one of an object and tag
abbrev pub IsNone : ℕ → ℕ → Entry → Type 0
IsNone object tag e = is_quiet_at object tag e ≡ false

-- whether each entry of a list is none
list_none : (object tag : ℕ) (es : List Entry) → AllByRecursion (IsNone object tag) es → list_all (λ e. not (is_quiet_at object tag e)) es ≡ true
list_none object tag [] none = refl
list_none object tag (e ∷ es) none = rw none.0 (list_none object tag es none.1)

none_list : (object tag : ℕ) (es : List Entry) → list_all (λ e. not (is_quiet_at object tag e)) es ≡ true → AllByRecursion (IsNone object tag) es
none_list object tag [] all = tt
none_list object tag (e ∷ es) all =
    let both = and_parts (not (is_quiet_at object tag e)) (list_all (λ x. not (is_quiet_at object tag x)) es) all in
    (not-true (is_quiet_at object tag e) both.0, none_list object tag es both.1)

-- no entry of the tag before comes after the tag is raised
later_none : (parts : List Part) (object tag : ℕ) (newer older : List Entry) → IsLegal parts 0 (newer ++ older) → tag < tag_of object older → AllByRecursion (IsNone object tag) newer
later_none parts object tag [] older legal above = tt
later_none parts object tag (x ∷ newer) older legal above = (
  elim (cases_Bool (object == x.object)) [
    | inl y ↦
        let same : object ≡ x.object = eqb-true object x.object y in
        let own : x.tag ≡ 0 + tag_of object (x ∷ (newer ++ older)) = subst (λ o. x.tag ≡ 0 + tag_of o (x ∷ (newer ++ older))) (sym same) legal.0 in
        let other : (x.tag == tag) ≡ false = ne_eqb x.tag tag (λ is. omega (arith, own, is, above, tag_of_append object newer older)) in
        and_right (is_on object x && not (is_loud x)) (x.tag == tag) other
    | inr y ↦ and_left (is_on object x && not (is_loud x)) (x.tag == tag) (and_left (is_on object x) (not (is_loud x)) y)
  ],
  later_none parts object tag newer older legal.2 above,
)

pub loud_none : (object tag : ℕ) (e : Entry) → is_loud e ≡ true → IsNone object tag e
loud_none object tag e loud = and_left (is_on object e && not (is_loud e)) (e.tag == tag) (and_right (is_on object e) (not (is_loud e)) (rw loud refl))

-- what is left, with the taken entries before it, is a history of which the lists are
module _ (parts : List Part) (objects : ℕ) (lists : List (List Entry)) (rest taken : List Entry) (are : AreOf parts objects lists (rest ++ taken)) where
  own_list : (caller : ℕ) → caller < length lists → list_at lists caller ≡ reverse (filter (is_of caller) rest ++ filter (is_of caller) taken)
  own_list caller h = are.own caller h ∙ ap (λ es. reverse es) (entries_of_filter caller (rest ++ taken) ∙ filter-append (is_of caller) rest taken)

  -- the entries that a caller has left
  own_left : (caller : ℕ) → caller < length lists → left_of lists taken caller ≡ reverse (filter (is_of caller) rest)
  own_left caller h =
      let own : list_at lists caller ≡ reverse (filter (is_of caller) taken) ++ reverse (filter (is_of caller) rest) = own_list caller h ∙ reverse-append (filter (is_of caller) rest) (filter (is_of caller) taken) in
      let many : length (reverse (filter (is_of caller) taken)) ≡ calls_of caller taken = length-reverse (filter (is_of caller) taken) ∙ sym (calls_of_length caller taken) in
      ap (drop (calls_of caller taken)) own ∙ drop_at (reverse (filter (is_of caller) taken)) (reverse (filter (is_of caller) rest)) (calls_of caller taken) many

  -- the next entry of a caller is the oldest one that is left of it
  next_none : (caller : ℕ) → caller < length lists → filter (is_of caller) rest ≡ [] → next_of lists taken caller ≡ None
  next_none caller h none =
      rw (own_list caller h, none, calls_of_length caller taken) (reverse_past (filter (is_of caller) taken))

  next_some : (caller : ℕ) → caller < length lists → (s : Split (is_of caller) rest) → next_of lists taken caller ≡ Some s.entry
  next_some caller h s =
      let kept : filter (is_of caller) rest ≡ filter (is_of caller) s.newer ++ s.entry ∷ [] =
      ap (filter (is_of caller)) s.joined ∙ filter-append (is_of caller) s.newer (s.entry ∷ s.older) ∙ (rw (s.passes, s.last) refl) in
      rw (own_list caller h, kept, calls_of_length caller taken, append_assoc) (reverse_at (filter (is_of caller) s.newer) s.entry (filter (is_of caller) taken))

  -- whether a quiet entry of an object and tag is left is asked of all that is left
  none_left : (object tag n : ℕ) → n ≤ length lists → AllByRecursion (IsNone object tag) rest → none_waits lists taken object tag n ≡ true
  none_left object tag zero h none = refl
  none_left object tag (suc n) h none =
      let here : list_all (λ e. not (is_quiet_at object tag e)) (left_of lists taken n) ≡ true =
      rw (own_left n (omega arith)) (list_none object tag (reverse (filter (is_of n) rest)) (each_reverse (IsNone object tag) (filter (is_of n) rest) (each_of (IsNone object tag) n rest none))) in
      rw (none_left object tag n (omega arith) none) here

  left_none_of : (object tag n : ℕ) → none_waits lists taken object tag n ≡ true → (caller : ℕ) → caller < n → n ≤ length lists → AllByRecursion (IsNone object tag) (filter (is_of caller) rest)
  left_none_of object tag zero none caller h few = absurd (omega arith)
  left_none_of object tag (suc n) none caller h few =
      let both = and_parts (none_waits lists taken object tag n) (list_all (λ e. not (is_quiet_at object tag e)) (left_of lists taken n)) none in
      elim (cases_lt caller n) [
        | inl before ↦ left_none_of object tag n both.0 caller before (omega arith)
        | inr last ↦
            let same : n ≡ caller = omega arith in
            let here : AllByRecursion (IsNone object tag) (reverse (filter (is_of n) rest)) = none_list object tag (reverse (filter (is_of n) rest)) (subst (λ es. list_all (λ e. not (is_quiet_at object tag e)) es ≡ true) (own_left n (omega arith)) both.1) in
            let there : AllByRecursion (IsNone object tag) (filter (is_of n) rest) = subst (AllByRecursion (IsNone object tag)) (reverse-reverse (filter (is_of n) rest)) (each_reverse (IsNone object tag) (reverse (filter (is_of n) rest)) here) in
            subst (λ k. AllByRecursion (IsNone object tag) (filter (is_of k) rest)) same there
      ]

  left_none : (object tag : ℕ) → none_waits lists taken object tag (length lists) ≡ true → AllByRecursion (IsNone object tag) rest
  left_none object tag none =
      each_from (IsNone object tag) (length lists) rest (each_newer (λ e. e.caller < length lists) rest taken are.callers)
      (λ caller h. left_none_of object tag (length lists) none caller h (omega arith))

  -- the oldest entry that is left is ready
  oldest_ready : (newer : List Entry) (e : Entry) → rest ≡ newer ++ e ∷ [] → (e.caller < length lists) × (ready_of lists taken e.caller ≡ Some e)
  oldest_ready newer e is =
      let here : newer ++ (e ∷ taken) ≡ rest ++ taken = sym (append_assoc newer (e ∷ []) taken) ∙ ap (λ es. es ++ taken) (sym is) in
      let all : IsLegal parts 0 (newer ++ (e ∷ taken)) = subst (IsLegal parts 0) (sym here) are.legal in
      let legal : IsLegal parts 0 (e ∷ taken) = legal_tail parts 0 newer (e ∷ taken) all in
      let known : e.caller < length lists = (each_older (λ x. x.caller < length lists) newer (e ∷ taken) (subst (AllByRecursion (λ x. x.caller < length lists)) (sym here) are.callers)).0 in
      let own : is_of e.caller e ≡ true = eq-eqb e.caller e.caller refl in
      let next : next_of lists taken e.caller ≡ Some e = next_some e.caller known (record { newer = newer; entry = e; older = []; joined = is; passes = own; last = refl }) in
      let tag : e.tag ≡ 0 + (cond {A = ℕ} (is_loud e) 1 0 + tag_of e.object taken) = rw (eq-eqb e.object e.object refl) at legal.0 in
      let ready : is_ready lists taken e ≡ true = elim (cases_Bool (is_loud e)) [
        | inl loud ↦
            let next_tag : e.tag ≡ tag_of e.object taken + 1 = rw loud at tag ∙ omega arith in
            let above : tag_of e.object taken < tag_of e.object (e ∷ taken) = omega (arith, next_tag, legal.0) in
            let none : AllByRecursion (IsNone e.object (tag_of e.object taken)) (newer ++ e ∷ []) =
            each_append (IsNone e.object (tag_of e.object taken)) newer (e ∷ []) (later_none parts e.object (tag_of e.object taken) newer (e ∷ taken) all above) (loud_none e.object (tag_of e.object taken) e loud, tt) in
            rw (loud, eq-eqb e.tag (tag_of e.object taken + 1) next_tag) (none_left e.object (tag_of e.object taken) (length lists) (omega arith) (subst (AllByRecursion (IsNone e.object (tag_of e.object taken))) (sym is) none))
        | inr quiet ↦
            let same_tag : e.tag ≡ tag_of e.object taken = rw quiet at tag ∙ omega arith in
            rw quiet (eq-eqb e.tag (tag_of e.object taken) same_tag)
      ] in
      (known, rw (next, ready) refl)

-- what is known of an entry that is taken, and what is then left
pub record Takes (parts : List Part) (objects : ℕ) (lists : List (List Entry)) (rest taken : List Entry) (e : Entry) : Type 0 where
  pub caller : e.caller < length lists
  pub object : e.object < objects
  pub tag : e.tag ≡ tag_of e.object taken + cond {A = ℕ} (is_loud e) 1 0
  pub next : next_of lists taken e.caller ≡ Some e
  pub left : List Entry
  pub same : Same (left ++ e ∷ taken) (rest ++ taken)
  pub legal : IsLegal parts 0 (left ++ e ∷ taken)

if_ready_some : (lists : List (List Entry)) (taken : List Entry) (next : Option Entry) (e : Entry) → if_ready lists taken next ≡ Some e → (next ≡ Some e) × (is_ready lists taken e ≡ true)
if_ready_some lists taken None e is = cc
if_ready_some lists taken (Some x) e is = elim (cases_Bool (is_ready lists taken x)) [
  | inl y ↦ let same : Some x ≡ Some e = rw y at is in let one : x ≡ e = cc in (same, rw one at y)
  | inr y ↦ let none : None ≡ Some e = rw y at is in cc
]

-- what a ready entry is
ready_tag : (lists : List (List Entry)) (taken : List Entry) (e : Entry) → is_ready lists taken e ≡ true
    → (e.tag ≡ tag_of e.object taken + cond {A = ℕ} (is_loud e) 1 0) × (is_loud e ≡ true → none_waits lists taken e.object (tag_of e.object taken) (length lists) ≡ true)
ready_tag lists taken e ready = elim (cases_Bool (is_loud e)) [
  | inl loud ↦
      let both : ((e.tag == tag_of e.object taken + 1) && none_waits lists taken e.object (tag_of e.object taken) (length lists)) ≡ true = rw loud at ready in
      let parts = and_parts (e.tag == tag_of e.object taken + 1) (none_waits lists taken e.object (tag_of e.object taken) (length lists)) both in
      (rw loud (eqb-true e.tag (tag_of e.object taken + 1) parts.0), λ _. parts.1)
  | inr quiet ↦
      let same : (e.tag == tag_of e.object taken) ≡ true = rw quiet at ready in
      (rw quiet (eqb-true e.tag (tag_of e.object taken) same ∙ omega arith), λ loud. let never : false ≡ true = sym quiet ∙ loud in cc)
]

-- a ready entry has nothing to do with the older ones that are left
ready_apart : (parts : List Part) (e : Entry) (older taken : List Entry) → IsLegal parts 0 (older ++ taken) → tag_of e.object older ≡ 0 → (is_loud e ≡ true → AllByRecursion (IsNone e.object (tag_of e.object taken)) older) → AllByRecursion (IsApart e) older
ready_apart parts e [] taken legal none free = tt
ready_apart parts e (x ∷ older) taken legal none free = (
  (λ same.
      let on : (e.object == x.object) ≡ true = eq-eqb e.object x.object same in
      let quiet : is_loud x ≡ false = elim (cases_Bool (is_loud x)) [
        | inr q ↦ q
        | inl l ↦ let one : 1 + tag_of e.object older ≡ 0 = rw (on, l) at none in absurd (omega (arith, one))
      ] in
      let before : tag_of e.object older ≡ 0 = omega (arith, none) in
      let own : x.tag ≡ 0 + tag_of e.object (x ∷ (older ++ taken)) = subst (λ o. x.tag ≡ 0 + tag_of o (x ∷ (older ++ taken))) (sym same) legal.0 in
      let own_tag : x.tag ≡ tag_of e.object taken = (rw (on, quiet) at own) ∙ omega (arith, before, tag_of_append e.object older taken) in
      let soft : is_loud e ≡ false = elim (cases_Bool (is_loud e)) [
        | inr q ↦ q
        | inl l ↦
            let no : ((e.object == x.object) && not (is_loud x) && (x.tag == tag_of e.object taken)) ≡ false = (free l).0 in
            let never : true ≡ false = rw (on, quiet, eq-eqb x.tag (tag_of e.object taken) own_tag) at no in
            cc
      ] in
      (soft, quiet)),
  ready_apart parts e older taken legal.2 (omega (arith, none)) (λ loud. (free loud).1),
)

module _ (stays : QuietStays) (kept : ReplayIsState) (parts : List Part) (objects : ℕ) (lists : List (List Entry)) (rest taken : List Entry) (are : AreOf parts objects lists (rest ++ taken)) where
  takes_split : (caller : ℕ) → (s : Split (is_of caller) rest) → is_ready lists taken s.entry ≡ true → next_of lists taken caller ≡ Some s.entry → Takes parts objects lists rest taken s.entry
  takes_split caller s ready next =
      let e : Entry = s.entry in
      let here : rest ++ taken ≡ s.newer ++ (e ∷ (s.older ++ taken)) = ap (λ es. es ++ taken) s.joined ∙ append_assoc s.newer (e ∷ s.older) taken in
      let all : IsLegal parts 0 (s.newer ++ (e ∷ (s.older ++ taken))) = subst (IsLegal parts 0) here are.legal in
      let fitting : All (IsFitting parts) (s.newer ++ (e ∷ (s.older ++ taken))) = subst (All (IsFitting parts)) here are.fitting in
      let legal : IsLegal parts 0 (e ∷ (s.older ++ taken)) = legal_tail parts 0 s.newer (e ∷ (s.older ++ taken)) all in
      let callers : AllByRecursion (λ x. x.caller < length lists) (e ∷ (s.older ++ taken)) = each_older (λ x. x.caller < length lists) s.newer (e ∷ (s.older ++ taken)) (subst (AllByRecursion (λ x. x.caller < length lists)) here are.callers) in
      let known : AllByRecursion (λ x. x.object < objects) (e ∷ (s.older ++ taken)) = each_older (λ x. x.object < objects) s.newer (e ∷ (s.older ++ taken)) (subst (AllByRecursion (λ x. x.object < objects)) here are.known) in
      let fits = ready_tag lists taken e ready in
      let own_tag : e.tag ≡ 0 + (cond {A = ℕ} (is_loud e) 1 0 + tag_of e.object (s.older ++ taken)) = rw (eq-eqb e.object e.object refl) at legal.0 in
      let none : tag_of e.object s.older ≡ 0 = omega (arith, fits.0, own_tag, tag_of_append e.object s.older taken) in
      let none_loud : filter (is_loud_on e.object) s.older ≡ [] = sym (louds_filter e.object s.older) ∙ nil_from_length (louds_on e.object s.older) (sym (tag_of_louds e.object s.older) ∙ none) in
      let free : is_loud e ≡ true → AllByRecursion (IsNone e.object (tag_of e.object taken)) s.older = λ loud.
      let left : AllByRecursion (IsNone e.object (tag_of e.object taken)) (s.newer ++ e ∷ s.older) = subst (AllByRecursion (IsNone e.object (tag_of e.object taken))) s.joined (left_none parts objects lists rest taken are e.object (tag_of e.object taken) (fits.1 loud)) in
      (each_older (IsNone e.object (tag_of e.object taken)) s.newer (e ∷ s.older) left).1 in
      let apart : AllByRecursion (IsApart e) s.older = ready_apart parts e s.older taken legal.2 none free in
      let own : caller ≡ e.caller = eqb-true caller e.caller s.passes in
      record {
        caller = callers.0;
        object = known.0;
        tag = fits.0;
        next = subst (λ n. next_of lists taken n ≡ Some e) own next;
        left = s.newer ++ s.older;
        same = record {
          of = λ d. sym (ap (filter (is_of d)) here ∙ moved (is_of d) s.newer s.older taken e (λ y. let at : caller ≡ d = own ∙ sym (eqb-true d e.caller y) in subst (λ n. filter (is_of n) s.older ≡ []) at s.last));
          loud = λ o.
              let at : is_loud_on o e ≡ true → filter (is_loud_on o) s.older ≡ [] = λ y. let same : e.object ≡ o = sym (eqb-true o e.object (and_parts (is_on o e) (is_loud e) y).0) in subst (λ n. filter (is_loud_on n) s.older ≡ []) same none_loud in
              louds_filter o ((s.newer ++ s.older) ++ e ∷ taken) ∙ sym (moved (is_loud_on o) s.newer s.older taken e at) ∙ sym (louds_filter o (s.newer ++ (e ∷ (s.older ++ taken)))) ∙ ap (louds_on o) (sym here);
          on = λ o. subst (λ es. IsPermutation (entries_on o ((s.newer ++ s.older) ++ e ∷ taken)) (entries_on o es)) (sym here) (moved_same (is_on o) s.newer s.older taken e);
          all = subst (IsPermutation ((s.newer ++ s.older) ++ e ∷ taken)) (sym here) (moved_all s.newer s.older taken e);
        };
        legal = legal_moved stays kept parts are.limits s.newer s.older taken e all fitting apart;
      }

  -- taking the ready next entry of a caller
  takes : (caller : ℕ) (e : Entry) → caller < length lists → ready_of lists taken caller ≡ Some e → Takes parts objects lists rest taken e
  takes caller e h is =
      let found = if_ready_some lists taken (next_of lists taken caller) e is in
      elim (split_last (is_of caller) rest) [
        | inl none ↦ let past : next_of lists taken caller ≡ None = next_none parts objects lists rest taken are caller h none in let never : None ≡ Some e = sym past ∙ found.0 in absurd (none-some e never)
        | inr s ↦
            let next : next_of lists taken caller ≡ Some s.entry = next_some parts objects lists rest taken are caller h s in
            let this : Some s.entry ≡ Some e = sym next ∙ found.0 in
            let one : s.entry ≡ e = same_Some s.entry e this in
            subst (Takes parts objects lists rest taken) one (takes_split caller s (rw one found.1) next)
      ]

-- the first that is there of so many
cases_some : (o : Option Entry) → (o ≡ None) ⊎ ((x : Entry) × (o ≡ Some x))
cases_some None = inl refl
cases_some (Some x) = inr (x, refl)

or_else_is : (a b : Option Entry) (e : Entry) → or_else a b ≡ Some e → (a ≡ Some e) ⊎ (b ≡ Some e)
or_else_is None b e is = inr is
or_else_is (Some x) b e is = inl is

first_is : (entry_at : ℕ → Option Entry) (n : ℕ) (e : Entry) → first_below entry_at n ≡ Some e → (k : ℕ) × (k < n) × (entry_at k ≡ Some e)
first_is entry_at zero e is = absurd (none-some e is)
first_is entry_at (suc n) e is = elim (or_else_is (first_below entry_at n) (entry_at n) e is) [
  | inl before ↦ let found = first_is entry_at n e before in (found.0, omega arith, found.2)
  | inr here ↦ (n, omega arith, here)
]

first_there : (entry_at : ℕ → Option Entry) (n k : ℕ) (e : Entry) → k < n → entry_at k ≡ Some e → (x : Entry) × (first_below entry_at n ≡ Some x)
first_there entry_at zero k e h is = absurd (omega arith)
first_there entry_at (suc n) k e h is = elim (cases_some (first_below entry_at n)) [
  | inr some ↦ (some.0, rw some.1 refl)
  | inl none ↦ elim (cases_lt k n) [
    | inl below ↦ let found = first_there entry_at n k e below is in absurd (none-some found.0 (sym none ∙ found.1))
    | inr above ↦ let last : n ≡ k = omega arith in (e, rw none (rw last is))
  ]
]

-- what is left of the history after so many steps
pub record Stage (parts : List Part) (history taken : List Entry) : Type 0 where
  pub rest : List Entry
  pub same : Same (rest ++ taken) history
  pub legal : IsLegal parts 0 (rest ++ taken)

pub stage_are : (parts : List Part) (objects : ℕ) (lists : List (List Entry)) (history taken : List Entry) → AreOf parts objects lists history → (s : Stage parts history taken) → AreOf parts objects lists (s.rest ++ taken)
stage_are parts objects lists history taken are s = same_are parts objects lists (s.rest ++ taken) history s.same s.legal are

-- every entry passes
abbrev pub any_entry : Entry → Bool
any_entry e = true

all_pass : (es : List Entry) → filter any_entry es ≡ es
all_pass [] = refl
all_pass (e ∷ es) = ap (λ xs. e ∷ xs) (all_pass es)

module _ (stays : QuietStays) (kept : ReplayIsState) (parts : List Part) (objects : ℕ) (lists : List (List Entry)) (history : List Entry) (are : AreOf parts objects lists history) where
  -- as long as an entry is left, one is ready
  pub step : (taken : List Entry) (s : Stage parts history taken) → length taken < length history → (e : Entry) × (first_ready lists taken ≡ Some e) × Takes parts objects lists s.rest taken e
  step taken s more =
      let here : AreOf parts objects lists (s.rest ++ taken) = stage_are parts objects lists history taken are s in
      elim (split_last any_entry s.rest) [
        | inl none ↦ let empty : s.rest ≡ [] = sym (all_pass s.rest) ∙ none in absurd (omega (arith, ap (λ es. length es) empty, length-append s.rest taken, length_permutation (s.rest ++ taken) history s.same.all))
        | inr split ↦
            let nothing : split.older ≡ [] = sym (all_pass split.older) ∙ split.last in
            let oldest = oldest_ready parts objects lists s.rest taken here split.newer split.entry (split.joined ∙ ap (λ es. split.newer ++ split.entry ∷ es) nothing) in
            let first = first_there (ready_of lists taken) (length lists) split.entry.caller split.entry oldest.0 oldest.1 in
            let found = first_is (ready_of lists taken) (length lists) first.0 first.1 in
            (first.0, first.1, takes stays kept parts objects lists s.rest taken here found.0 first.0 found.1 found.2)
      ]

  -- the merged order is a stage at each step
  pub stages : (n : ℕ) → n ≤ length history → Stage parts history (merged_to lists n) × (length (merged_to lists n) ≡ n)
  stages zero h = (
    record {
      rest = history;
      same = subst (λ es. Same es history) (sym (append-nil history)) (same_itself history);
      legal = subst (IsLegal parts 0) (sym (append-nil history)) are.legal;
    },
    refl,
  )
  stages (suc n) h =
      let before = stages n (omega arith) in
      let taken : List Entry = merged_to lists n in
      let next = step taken before.0 (omega (arith, before.1)) in
      let longer : merged_to lists (suc n) ≡ next.0 ∷ taken = ap (λ o. with_next o taken) next.1 in (
        record {
          rest = next.2.left;
          same = subst (λ es. Same (next.2.left ++ es) history) (sym longer) (same_then (next.2.left ++ next.0 ∷ taken) (before.0.rest ++ taken) history next.2.same before.0.same);
          legal = subst (λ es. IsLegal parts 0 (next.2.left ++ es)) (sym longer) next.2.legal;
        },
        ap (λ es. length es) longer ∙ omega (arith, before.1),
      )
