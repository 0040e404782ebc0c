-- The entries of a caller and those on an object, as filters of a list of entries.
use Rattle.std.proofs.Common.{ℕ, ◌≡◌, ◌+◌, ◌<◌, ◌⊎◌, subst, Bool, true, cond, List, [], ◌∷◌, ◌++◌, length, reverse, refl, sym, ap, ◌∙◌, inl, inr, arith, append_assoc, append-nil}
use Rattle.std.specs.Prelude.{◌==◌, count_by, filter, slice_get, IsPermutation, Some, None}
use Rattle.std.specs.List.{AllByRecursion}
use Rattle.std.proofs.lemmas.Bool.{both_ways, cases_Bool, eq-eqb}
use Rattle.std.proofs.lemmas.List.{reverse-append, length-reverse}
use Rattle.std.proofs.lemmas.List.Elements.{filter-append}
use Rattle.std.proofs.lemmas.List.Sorted.{IsPermutation-refl, IsPermutation-append_right, IsPermutation-middle}
use Rattle.std.proofs.lemmas.List.Sums.{sum_by-cons, length-filter}
use Rattle.std.proofs.lemmas.Option.{slice_get_past}
use Rattle.rx_seq.specs.declared.entries.Entry.{Entry}
use Rattle.rx_seq.specs.History.{is_loud, tag_of, calls_of}
use Rattle.rx_seq.specs.Legal.{entries_of}
use Rattle.rx_merge.specs.Merged.{louds_on}
use Rattle.rx_merge.specs.MergeState.{is_loud_on}

abbrev pub is_of : ℕ → Entry → Bool
is_of caller entry = caller == entry.caller

pub entries_of_filter : (caller : ℕ) (es : List Entry) → entries_of caller es ≡ filter (is_of caller) es
entries_of_filter caller [] = refl
entries_of_filter caller (e ∷ es) = rw (entries_of_filter caller es) refl

-- the counts of both
pub calls_of_length : (caller : ℕ) (es : List Entry) → calls_of caller es ≡ length (filter (is_of caller) es)
calls_of_length caller [] = refl
calls_of_length caller (e ∷ es) = elim (cases_Bool (caller == e.caller)) [
  | inl y ↦ rw y (omega (arith, calls_of_length caller es))
  | inr y ↦ rw y (omega (arith, calls_of_length caller es))
]

-- the loud entries on an object by one test
pub louds_filter : (object : ℕ) (es : List Entry) → louds_on object es ≡ filter (is_loud_on object) es
louds_filter object [] = refl
louds_filter object (e ∷ es) = elim (cases_Bool (object == e.object)) [
  | inl y ↦ rw y (elim (cases_Bool (is_loud e)) [
    | inl l ↦ rw l (ap (λ xs. e ∷ xs) (louds_filter object es))
    | inr l ↦ rw l (louds_filter object es)
  ])
  | inr y ↦ rw y (louds_filter object es)
]

-- the tag is their number
pub tag_of_count : (object : ℕ) (es : List Entry) → tag_of object es ≡ count_by (is_loud_on object) es
tag_of_count object [] = refl
tag_of_count object (e ∷ es) = ap (λ n. cond {A = ℕ} (is_loud_on object e) 1 0 + n) (tag_of_count object es) ∙ sym (sum_by-cons (λ x. cond (is_loud_on object x) 1 0) e es)

pub tag_of_louds : (object : ℕ) (es : List Entry) → tag_of object es ≡ length (louds_on object es)
tag_of_louds object es = tag_of_count object es ∙ sym (length-filter (is_loud_on object) es) ∙ ap (λ xs. length xs) (sym (louds_filter object es))

pub tag_of_append : (object : ℕ) (xs ys : List Entry) → tag_of object (xs ++ ys) ≡ tag_of object xs + tag_of object ys
tag_of_append object [] ys = omega arith
tag_of_append object (x ∷ xs) ys = rw (tag_of_append object xs ys) (omega arith)

-- the oldest entry that passes a test, with what is newer and what is older
pub record Split (p : Entry → Bool) (es : List Entry) : Type 0 where
  pub newer : List Entry
  pub entry : Entry
  pub older : List Entry
  pub joined : es ≡ newer ++ entry ∷ older
  pub passes : p entry ≡ true
  pub last : filter p older ≡ []

pub split_last : (p : Entry → Bool) (es : List Entry) → (filter p es ≡ []) ⊎ Split p es
split_last p [] = inl refl
split_last p (e ∷ es) = elim (split_last p es) [
  | inl none ↦ elim (cases_Bool (p e)) [
    | inl y ↦ inr (record { newer = []; entry = e; older = es; joined = refl; passes = y; last = none })
    | inr y ↦ inl (rw y none)
  ]
  | inr s ↦ inr (record { newer = e ∷ s.newer; entry = s.entry; older = s.older; joined = ap (λ xs. e ∷ xs) s.joined; passes = s.passes; last = s.last })
]

-- an entry may go before those that no test picks with it
pub moved : (p : Entry → Bool) (newer middle older : List Entry) (e : Entry) → (p e ≡ true → filter p middle ≡ []) → filter p (newer ++ e ∷ (middle ++ older)) ≡ filter p ((newer ++ middle) ++ e ∷ older)
moved p newer middle older e apart =
    simp (filter-append p) (elim (cases_Bool (p e)) [
      | inl y ↦ rw (y, apart y) (simp append-nil)
      | inr y ↦ rw y (simp append_assoc)
    ])

-- and the same entries are there
pub moved_all : (newer middle older : List Entry) (e : Entry) → IsPermutation ((newer ++ middle) ++ e ∷ older) (newer ++ e ∷ (middle ++ older))
moved_all newer middle older e = rw (append_assoc newer middle (e ∷ older)) (IsPermutation-append_right newer (middle ++ e ∷ older) (e ∷ (middle ++ older)) (IsPermutation-middle middle e older))

pub moved_same : (p : Entry → Bool) (newer middle older : List Entry) (e : Entry) → IsPermutation (filter p ((newer ++ middle) ++ e ∷ older)) (filter p (newer ++ e ∷ (middle ++ older)))
moved_same p newer middle older e = elim (cases_Bool (p e)) [
  | inl y ↦
      let left : filter p ((newer ++ middle) ++ e ∷ older) ≡ (filter p newer ++ filter p middle) ++ e ∷ filter p older = filter-append p (newer ++ middle) (e ∷ older) ∙ (rw (y, filter-append p newer middle) refl) in
      let right : filter p (newer ++ e ∷ (middle ++ older)) ≡ filter p newer ++ e ∷ (filter p middle ++ filter p older) = filter-append p newer (e ∷ (middle ++ older)) ∙ (rw (y, filter-append p middle older) refl) in
      rw (left, right) (moved_all (filter p newer) (filter p middle) (filter p older) e)
  | inr y ↦ subst (λ xs. IsPermutation (filter p ((newer ++ middle) ++ e ∷ older)) xs) (sym (moved p newer middle older e (λ yes. absurd (both_ways (p e) y yes)))) (IsPermutation-refl (filter p ((newer ++ middle) ++ e ∷ older)))
]

-- what stands in a reversed list behind the older ones
slice_get_at : {X : Type 0} (xs : List X) (y : X) (ys : List X) → slice_get (xs ++ y ∷ ys) (length xs) ≡ Some y
slice_get_at [] y ys = refl
slice_get_at (x ∷ xs) y ys = slice_get_at xs y ys

pub reverse_at : {X : Type 0} (xs : List X) (y : X) (ys : List X) → slice_get (reverse (xs ++ y ∷ ys)) (length ys) ≡ Some y
reverse_at xs y ys =
    rw (reverse-append xs (y ∷ ys), reverse-append (y ∷ []) ys) (rw append_assoc (subst (λ n. slice_get (reverse ys ++ (y ∷ reverse xs)) n ≡ Some y) (length-reverse ys) (slice_get_at (reverse ys) y (reverse xs))))

pub reverse_past : {X : Type 0} (xs : List X) → slice_get (reverse xs) (length xs) ≡ None
reverse_past xs = slice_get_past (reverse xs) (length xs) (omega (arith, length-reverse xs))

-- a fact of each entry
pub each_append : (P : Entry → Type 0) (xs ys : List Entry) → AllByRecursion P xs → AllByRecursion P ys → AllByRecursion P (xs ++ ys)
each_append P [] ys a b = b
each_append P (x ∷ xs) ys a b = (a.0, each_append P xs ys a.1 b)

pub each_older : (P : Entry → Type 0) (newer older : List Entry) → AllByRecursion P (newer ++ older) → AllByRecursion P older
each_older P [] older all = all
each_older P (e ∷ newer) older all = each_older P newer older all.1

pub each_newer : (P : Entry → Type 0) (newer older : List Entry) → AllByRecursion P (newer ++ older) → AllByRecursion P newer
each_newer P [] older all = tt
each_newer P (e ∷ newer) older all = (all.0, each_newer P newer older all.1)

pub each_reverse : (P : Entry → Type 0) (xs : List Entry) → AllByRecursion P xs → AllByRecursion P (reverse xs)
each_reverse P [] all = tt
each_reverse P (x ∷ xs) all = subst (AllByRecursion P) (sym (reverse-append (x ∷ []) xs)) (each_append P (reverse xs) (x ∷ []) (each_reverse P xs all.1) (all.0, tt))

pub each_of : (P : Entry → Type 0) (caller : ℕ) (es : List Entry) → AllByRecursion P es → AllByRecursion P (filter (is_of caller) es)
each_of P caller [] all = tt
each_of P caller (e ∷ es) all = elim (cases_Bool (caller == e.caller)) [
  | inl y ↦ let with_e : AllByRecursion P (e ∷ filter (is_of caller) es) = (all.0, each_of P caller es all.1) in rw y with_e
  | inr y ↦ rw y (each_of P caller es all.1)
]

pub each_from : (P : Entry → Type 0) (n : ℕ) (es : List Entry) → AllByRecursion (λ e. e.caller < n) es → ((caller : ℕ) → caller < n → AllByRecursion P (filter (is_of caller) es)) → AllByRecursion P es
each_from P n [] below each = tt
each_from P n (e ∷ es) below each = (
  (let own : AllByRecursion P (e ∷ filter (is_of e.caller) es) = rw (eq-eqb e.caller e.caller refl) at (each e.caller below.0) in own.0),
  each_from P n es below.1 (λ caller h. elim (cases_Bool (caller == e.caller)) [
    | inl y ↦ let with_e : AllByRecursion P (e ∷ filter (is_of caller) es) = rw y at (each caller h) in with_e.1
    | inr y ↦ rw y at (each caller h)
  ]),
)
