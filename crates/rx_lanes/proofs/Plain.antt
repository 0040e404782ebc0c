-- Entries without their callers.
use Rattle.std.proofs.Common.{ℕ, zero, suc, ◌≡◌, ◌≢◌, ◌+◌, ◌<◌, ◌≤◌, Bool, true, false, cond, ◌&&◌, List, [], ◌∷◌, ◌++◌, length, map, reverse, take, get_or, slice_get, Option, Some, None, refl, sym, ap, ap₂, ◌∙◌, subst, inl, inr, arith, length-append, nat_lt, ◌==◌, ne_eqb, eq-eqb, lt-ltb}
use Rattle.std.specs.Prelude.{filter}
use Rattle.std.specs.List.{AllByRecursion}
use Rattle.std.proofs.lemmas.Bool.{cases_Bool, cases_lt}
use Rattle.std.proofs.lemmas.Bool.Decides.{nat_tests}
use Rattle.std.proofs.lemmas.List.{reverse-append}
use Rattle.rx_seq.specs.declared.kinds.Part.{Part}
use Rattle.rx_seq.specs.declared.entries.Entry.{Entry}
use Rattle.rx_seq.specs.Table.{effect}
use Rattle.rx_seq.specs.History.{is_loud, part_at, replay, tag_of, calls_of}
use Rattle.rx_seq.specs.Legal.{IsLegal, entries_of}
use Rattle.rx_merge.specs.Merged.{entries_on, louds_on}
use Rattle.rx_lanes.specs.declared.answers.Answer.{Answer}
use Rattle.rx_set.specs.Operations.{Asked, asked_of}
use Rattle.rx_lanes.specs.Lists.{answer_of, plain}

-- an entry without its caller, from what it was asked and what it answered
abbrev rebuilt : Asked → Answer → Entry
rebuilt a r = record { caller = 0; index = 0; object = a.object; call = a.call; reply = r.reply; tag = r.tag }

plain_is : (e : Entry) → plain e ≡ rebuilt (asked_of e) (answer_of e)
plain_is e = refl

pub plain_from : (xs ys : List Entry) → map asked_of xs ≡ map asked_of ys → map answer_of xs ≡ map answer_of ys → map plain xs ≡ map plain ys
plain_from [] [] a r = refl
plain_from [] (y ∷ ys) a r = absurd (none (asked_of y) (map asked_of ys) a)
  where
    none : (x : Asked) (xs : List Asked) → [] ≡ x ∷ xs → ⊥
    none x xs e = cc
plain_from (x ∷ xs) [] a r = absurd (none (asked_of x) (map asked_of xs) a)
  where
    none : (x : Asked) (xs : List Asked) → x ∷ xs ≡ [] → ⊥
    none x xs e = cc
plain_from (x ∷ xs) (y ∷ ys) a r =
    let first : asked_of x ≡ asked_of y = head (asked_of x) (asked_of y) (map asked_of xs) (map asked_of ys) a in
    let rest : map asked_of xs ≡ map asked_of ys = tail (asked_of x) (asked_of y) (map asked_of xs) (map asked_of ys) a in
    let told : answer_of x ≡ answer_of y = head (answer_of x) (answer_of y) (map answer_of xs) (map answer_of ys) r in
    let more : map answer_of xs ≡ map answer_of ys = tail (answer_of x) (answer_of y) (map answer_of xs) (map answer_of ys) r in
    ap₂ (λ (z : Entry) (zs : List Entry). z ∷ zs) (plain_is x ∙ ap₂ rebuilt first told ∙ sym (plain_is y)) (plain_from xs ys rest more)
  where
    head : {X : Type 0} (a b : X) (us vs : List X) → a ∷ us ≡ b ∷ vs → a ≡ b
    head a b us vs e = cc

    tail : {X : Type 0} (a b : X) (us vs : List X) → a ∷ us ≡ b ∷ vs → us ≡ vs
    tail a b us vs e = cc

-- tags, states, entries on an object and loud ones do not look at callers
pub tag_plain : (object : ℕ) (es : List Entry) → tag_of object (map plain es) ≡ tag_of object es
tag_plain object [] = refl
tag_plain object (e ∷ es) = rw (tag_plain object es) refl

pub replay_plain : (parts : List Part) (object : ℕ) (es : List Entry) → replay parts object (map plain es) ≡ replay parts object es
replay_plain parts object [] = refl
replay_plain parts object (e ∷ es) = rw (replay_plain parts object es) refl

on_plain : (object : ℕ) (es : List Entry) → map plain (entries_on object es) ≡ entries_on object (map plain es)
on_plain object [] = refl
on_plain object (e ∷ es) = elim (cases_Bool (object == e.object)) [
  | inl y ↦ rw y (ap (λ (xs : List Entry). plain e ∷ xs) (on_plain object es))
  | inr y ↦ rw y (on_plain object es)
]

loud_plain : (es : List Entry) → map plain (filter is_loud es) ≡ filter is_loud (map plain es)
loud_plain [] = refl
loud_plain (e ∷ es) = elim (cases_Bool (is_loud e)) [
  | inl y ↦ rw y (ap (λ (xs : List Entry). plain e ∷ xs) (loud_plain es))
  | inr y ↦ rw y (loud_plain es)
]

to_plain : (parts : List Part) (first : ℕ) (es : List Entry) → IsLegal parts first es → IsLegal parts first (map plain es)
to_plain parts first [] h = tt
to_plain parts first (e ∷ es) h = (
  h.0 ∙ ap (λ (n : ℕ). first + n) (sym (tag_plain e.object (e ∷ es))),
  h.1 ∙ ap (λ (s : List ℕ). (effect (part_at parts e.object) s e.call).reply) (sym (replay_plain parts e.object es)),
  to_plain parts first es h.2,
)

from_plain : (parts : List Part) (first : ℕ) (es : List Entry) → IsLegal parts first (map plain es) → IsLegal parts first es
from_plain parts first [] h = tt
from_plain parts first (e ∷ es) h = (
  h.0 ∙ ap (λ (n : ℕ). first + n) (tag_plain e.object (e ∷ es)),
  h.1 ∙ ap (λ (s : List ℕ). (effect (part_at parts e.object) s e.call).reply) (replay_plain parts e.object es),
  from_plain parts first es h.2,
)

pub legal_plain : (parts : List Part) (first : ℕ) (xs ys : List Entry) → map plain xs ≡ map plain ys → IsLegal parts first ys → IsLegal parts first xs
legal_plain parts first xs ys same h = from_plain parts first xs (subst (IsLegal parts first) (sym same) (to_plain parts first ys h))

pub same_on : (object : ℕ) (xs ys : List Entry) → map plain xs ≡ map plain ys → map plain (entries_on object xs) ≡ map plain (entries_on object ys)
same_on object xs ys same = on_plain object xs ∙ ap (entries_on object) same ∙ sym (on_plain object ys)

pub same_louds : (object : ℕ) (xs ys : List Entry) → map plain xs ≡ map plain ys → map plain (louds_on object xs) ≡ map plain (louds_on object ys)
same_louds object xs ys same = loud_plain (entries_on object xs) ∙ ap (filter is_loud) (same_on object xs ys same) ∙ sym (loud_plain (entries_on object ys))

pub same_ends : (parts : List Part) (object : ℕ) (xs ys : List Entry) → map plain xs ≡ map plain ys → (tag_of object xs ≡ tag_of object ys) × (replay parts object xs ≡ replay parts object ys)
same_ends parts object xs ys same = (
  sym (tag_plain object xs) ∙ ap (tag_of object) same ∙ tag_plain object ys,
  sym (replay_plain parts object xs) ∙ ap (replay parts object) same ∙ replay_plain parts object ys,
)

-- what does not look at callers holds of all entries of both
module _ (P : Entry → Type 0) (to : (e : Entry) → P e → P (plain e)) (from : (e : Entry) → P (plain e) → P e) where
  all_plain : (es : List Entry) → AllByRecursion P es → AllByRecursion P (map plain es)
  all_plain [] h = tt
  all_plain (e ∷ es) h = (to e h.0, all_plain es h.1)

  plain_all : (es : List Entry) → AllByRecursion P (map plain es) → AllByRecursion P es
  plain_all [] h = tt
  plain_all (e ∷ es) h = (from e h.0, plain_all es h.1)

  pub same_all : (xs ys : List Entry) → map plain xs ≡ map plain ys → AllByRecursion P ys → AllByRecursion P xs
  same_all xs ys same h = plain_all xs (subst (AllByRecursion P) (sym same) (all_plain ys h))

-- the entries of a caller
abbrev pub is_by : ℕ → Entry → Bool
is_by caller entry = caller == entry.caller

pub entries_of_filter : (caller : ℕ) (es : List Entry) → entries_of caller es ≡ filter (is_by caller) es
entries_of_filter caller [] = refl
entries_of_filter caller (e ∷ es) = rw (entries_of_filter caller es) refl

pub calls_of_length : (caller : ℕ) (es : List Entry) → calls_of caller es ≡ length (entries_of caller es)
calls_of_length caller [] = refl
calls_of_length caller (e ∷ es) = elim (cases_Bool (caller == e.caller)) [
  | inl y ↦ rw y (omega (arith, calls_of_length caller es))
  | inr y ↦ rw y (omega (arith, calls_of_length caller es))
]

pub tag_few : (object : ℕ) (es : List Entry) → tag_of object es ≤ length es
tag_few object [] = omega arith
tag_few object (e ∷ es) = elim (cases_Bool ((object == e.object) && is_loud e)) [
  | inl y ↦ rw y (omega (arith, tag_few object es))
  | inr y ↦ rw y (omega (arith, tag_few object es))
]

pub entries_push : (caller : ℕ) (e : Entry) (es : List Entry) → reverse (entries_of caller (e ∷ es)) ≡ reverse (entries_of caller es) ++ filter (is_by caller) (e ∷ [])
entries_push caller e es = elim (cases_Bool (caller == e.caller)) [
  | inl y ↦ rw y (reverse-append (e ∷ []) (entries_of caller es))
  | inr y ↦ rw y (sym (Rattle.std.proofs.Common.append-nil (reverse (entries_of caller es))))
]

-- how many entries are of callers below a number
abbrev pub count_below : ℕ → List Entry → ℕ
count_below n [] = 0
count_below n (e ∷ es) = cond (nat_lt e.caller n) 1 0 + count_below n es

pub below_none : (es : List Entry) → count_below 0 es ≡ 0
below_none [] = refl
below_none (e ∷ es) = let one : cond {A = ℕ} (nat_lt e.caller 0) 1 0 ≡ 0 = grind (arith, nat_tests) in omega (arith, one, below_none es)

below_one : (n x : ℕ) → cond {A = ℕ} (nat_lt x (n + 1)) 1 0 ≡ cond {A = ℕ} (nat_lt x n) 1 0 + cond {A = ℕ} (n == x) 1 0
below_one n x = grind (arith, nat_tests)

pub below_more : (n : ℕ) (es : List Entry) → count_below (n + 1) es ≡ count_below n es + calls_of n es
below_more n [] = refl
below_more n (e ∷ es) = omega (arith, below_one n e.caller, below_more n es)

-- where no entry is of a caller from a number on, all are of callers below it
abbrev pub IsBelow : ℕ → Entry → Type 0
IsBelow n entry = entry.caller < n

pub all_below : (n : ℕ) (es : List Entry) → ((caller : ℕ) → n ≤ caller → entries_of caller es ≡ []) → AllByRecursion (IsBelow n) es
all_below n [] none = tt
all_below n (e ∷ es) none = (
  elim (cases_lt e.caller n) [
    | inl h ↦ h
    | inr h ↦ let one : e ∷ entries_of e.caller es ≡ [] = rw (eq-eqb e.caller e.caller refl) at (none e.caller h) in cc
  ],
  all_below n es (λ caller h. elim (cases_Bool (caller == e.caller)) [
    | inl y ↦ let one : e ∷ entries_of caller es ≡ [] = rw y at (none caller h) in cc
    | inr y ↦ rw y at (none caller h)
  ]),
)

pub below_all : (n : ℕ) (es : List Entry) → AllByRecursion (IsBelow n) es → count_below n es ≡ length es
below_all n [] below = refl
below_all n (e ∷ es) below = rw (lt-ltb e.caller n below.0) (omega (arith, below_all n es below.1))
