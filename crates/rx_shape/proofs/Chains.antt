-- Places along which nodes lead.
use Rattle.std.proofs.Common.{◌≡◌, ◌≢◌, ℕ, zero, suc, ◌+◌, ◌<◌, ◌≤◌, Bool, true, false, cond, eqb, ne_eqb, List, [], ◌∷◌, ◌++◌, length, refl, sym, ap, ◌∙◌, arith}
use Rattle.std.specs.Prelude.{slice_index}
use Rattle.std.proofs.lemmas.Bool.{cond-false, eqb-true}
use Rattle.rx_shape.specs.Places.{times, run}
use Rattle.rx_shape.specs.Nodes.{no_place, value_of, next_of, walk, ends, values}
use Rattle.rx_shape.proofs.Times.{times_here}

pub walk_none : (n : ℕ) (words : List ℕ) → walk n words no_place ≡ []
walk_none zero words = refl
walk_none (suc n) words = refl

pub ends_none : (n : ℕ) (words : List ℕ) → ends n words no_place ≡ true
ends_none zero words = refl
ends_none (suc n) words = refl

-- one step of a walk that is not at none
pub stepped : (n : ℕ) (words : List ℕ) (p q : ℕ) → p ≢ no_place → next_of (slice_index words p) ≡ q → (walk (suc n) words p ≡ p ∷ walk n words q) × (ends (suc n) words p ≡ ends n words q)
stepped n words p q ne e = let off = ne_eqb p no_place ne in (
  cond-false (eqb p no_place) [] (p ∷ walk n words (next_of (slice_index words p))) off ∙ ap (λ (x : ℕ). p ∷ walk n words x) e,
  cond-false (eqb p no_place) true (ends n words (next_of (slice_index words p))) off ∙ ap (ends n words) e,
)

pub length-walk : (n : ℕ) (words : List ℕ) (p : ℕ) → length (walk n words p) ≤ n
length-walk zero words p = omega arith
length-walk (suc n) words p = go (eqb p no_place) (length-walk n words (next_of (slice_index words p)))
  where
    go : (b : Bool) → length (walk n words (next_of (slice_index words p))) ≤ n → length (cond b [] (p ∷ walk n words (next_of (slice_index words p)))) ≤ suc n
    go true r = omega arith
    go false r = omega arith

-- walks that come to none do not depend on the bound
pub short : (n k : ℕ) (words : List ℕ) (p : ℕ) → ends n words p ≡ true → length (walk n words p) ≤ k → (walk k words p ≡ walk n words p) × (ends k words p ≡ true)
short zero k words p e le = let d = eqb-true p no_place e in (ap (walk k words) d ∙ walk_none k words, ap (ends k words) d ∙ ends_none k words)
short (suc n) zero words p e le = go (eqb p no_place) e le
  where
    go : (b : Bool) → cond b true (ends n words (next_of (slice_index words p))) ≡ true → length (cond b [] (p ∷ walk n words (next_of (slice_index words p)))) ≤ 0 → ([] ≡ cond b [] (p ∷ walk n words (next_of (slice_index words p)))) × (b ≡ true)
    go true x y = (refl, refl)
    go false x y = absurd (omega arith)
short (suc n) (suc k) words p e le = go (eqb p no_place) e le (short n k words (next_of (slice_index words p)))
  where
    go : (b : Bool) → cond b true (ends n words (next_of (slice_index words p))) ≡ true → length (cond b [] (p ∷ walk n words (next_of (slice_index words p)))) ≤ suc k
        → (ends n words (next_of (slice_index words p)) ≡ true → length (walk n words (next_of (slice_index words p))) ≤ k → (walk k words (next_of (slice_index words p)) ≡ walk n words (next_of (slice_index words p))) × (ends k words (next_of (slice_index words p)) ≡ true))
        → (cond b [] (p ∷ walk k words (next_of (slice_index words p))) ≡ cond b [] (p ∷ walk n words (next_of (slice_index words p)))) × (cond b true (ends k words (next_of (slice_index words p))) ≡ true)
    go true x y r = (refl, refl)
    go false x y r = let q = r x (omega arith) in (ap (λ (ps : List ℕ). p ∷ ps) q.0, q.1)

-- a walk reads its own places alone
pub walk_same : (n : ℕ) (words others : List ℕ) (p : ℕ) → ((q : ℕ) → 0 < times q (walk n words p) → slice_index others q ≡ slice_index words q) → walk n others p ≡ walk n words p
walk_same zero words others p h = refl
walk_same (suc n) words others p h = go (eqb p no_place) (λ q more. h q more) (walk_same n words others (next_of (slice_index words p)))
  where
    go : (b : Bool) → ((q : ℕ) → 0 < times q (cond b [] (p ∷ walk n words (next_of (slice_index words p)))) → slice_index others q ≡ slice_index words q)
        → (((q : ℕ) → 0 < times q (walk n words (next_of (slice_index words p))) → slice_index others q ≡ slice_index words q) → walk n others (next_of (slice_index words p)) ≡ walk n words (next_of (slice_index words p)))
        → cond b [] (p ∷ walk n others (next_of (slice_index others p))) ≡ cond b [] (p ∷ walk n words (next_of (slice_index words p)))
    go true k rec = refl
    go false k rec =
        let s = times_here p (walk n words (next_of (slice_index words p))) in
        let here : slice_index others p ≡ slice_index words p = k p (omega arith) in
        let more : walk n others (next_of (slice_index words p)) ≡ walk n words (next_of (slice_index words p)) = rec (λ q at. k q (omega arith)) in
        ap (λ (w : ℕ). p ∷ walk n others (next_of w)) here ∙ ap (λ (ps : List ℕ). p ∷ ps) more

pub ends_same : (n : ℕ) (words others : List ℕ) (p : ℕ) → ((q : ℕ) → 0 < times q (walk n words p) → slice_index others q ≡ slice_index words q) → ends n others p ≡ ends n words p
ends_same zero words others p h = refl
ends_same (suc n) words others p h = go (eqb p no_place) (λ q more. h q more) (ends_same n words others (next_of (slice_index words p)))
  where
    go : (b : Bool) → ((q : ℕ) → 0 < times q (cond b [] (p ∷ walk n words (next_of (slice_index words p)))) → slice_index others q ≡ slice_index words q)
        → (((q : ℕ) → 0 < times q (walk n words (next_of (slice_index words p))) → slice_index others q ≡ slice_index words q) → ends n others (next_of (slice_index words p)) ≡ ends n words (next_of (slice_index words p)))
        → cond b true (ends n others (next_of (slice_index others p))) ≡ cond b true (ends n words (next_of (slice_index words p)))
    go true k rec = refl
    go false k rec =
        let s = times_here p (walk n words (next_of (slice_index words p))) in
        let here : slice_index others p ≡ slice_index words p = k p (omega arith) in
        ap (λ (w : ℕ). ends n others (next_of w)) here ∙ rec (λ q at. k q (omega arith))

pub values_same : (words others ps : List ℕ) → ((q : ℕ) → 0 < times q ps → slice_index others q ≡ slice_index words q) → values others ps ≡ values words ps
values_same words others [] h = refl
values_same words others (p ∷ ps) h =
    let s = times_here p ps in
    let here : slice_index others p ≡ slice_index words p = h p (omega arith) in
    let more : values others ps ≡ values words ps = values_same words others ps (λ q at. h q (omega arith)) in
    λ j. value_of (here j) ∷ more j

pub length-values : (words ps : List ℕ) → length (values words ps) ≡ length ps
length-values words [] = refl
length-values words (p ∷ ps) = ap suc (length-values words ps)

-- places that are each linked to the next one, and the last one to none
pub walk_run : (n p : ℕ) (words : List ℕ) → p + n < no_place → ((q : ℕ) → p ≤ q → q < p + n → slice_index words q ≡ q + 1) → slice_index words (p + n) ≡ no_place → (walk (suc n) words p ≡ run p (suc n)) × (ends (suc n) words p ≡ true)
walk_run zero p words few links last =
    let here : p + 0 ≡ p = omega arith in
    let none : slice_index words p ≡ no_place = ap (slice_index words) (sym here) ∙ last in
    stepped 0 words p no_place (λ e. omega arith) (ap next_of none)
walk_run (suc n) p words few links last =
    let next : next_of (slice_index words p) ≡ p + 1 = ap next_of (links p (omega arith) (omega arith)) ∙ omega arith in
    let step = stepped (suc n) words p (p + 1) (λ e. omega arith) next in
    let e : p + suc n ≡ p + 1 + n = omega arith in
    let rest = walk_run n (p + 1) words (omega arith) (λ q from to. links q (omega arith) (omega arith)) (ap (slice_index words) (sym e) ∙ last) in
    (step.0 ∙ ap (λ (ps : List ℕ). p ∷ ps) rest.0, step.1 ∙ rest.1)

-- a walk that is not at none begins with its place
pub walk_begins : (n : ℕ) (words : List ℕ) (p : ℕ) → p ≢ no_place → ends n words p ≡ true → 0 < times p (walk n words p)
walk_begins zero words p ne e = absurd (ne (eqb-true p no_place e))
walk_begins (suc n) words p ne e = let s = times_here p (walk n words (next_of (slice_index words p))) in let t = ap (times p) (stepped n words p (next_of (slice_index words p)) ne refl).0 in omega arith

-- one more value is read along a walk
pub walk_on : (n m : ℕ) (words : List ℕ) (p q : ℕ) → n ≡ suc m → p ≢ no_place → q ≡ next_of (slice_index words p) → walk n words p ≡ p ∷ walk m words q
walk_on n m words p q is ne next = ap (λ (k : ℕ). walk k words p) is ∙ (stepped m words p q ne (sym next)).0

one_more : (done rest : List ℕ) (x : ℕ) → (done ++ x ∷ []) ++ rest ≡ done ++ x ∷ rest
one_more [] rest x = refl
one_more (y ∷ done) rest x = ap (λ (xs : List ℕ). y ∷ xs) (one_more done rest x)

pub read_on : (words items now whole : List ℕ) (n m p q x : ℕ) → n ≡ suc m → p ≢ no_place → q ≡ next_of (slice_index words p) → x ≡ value_of (slice_index words p) → now ≡ items ++ x ∷ [] → items ++ values words (walk n words p) ≡ whole
    → now ++ values words (walk m words q) ≡ whole
read_on words items now whole n m p q x is ne next value more so_far =
    ap (λ (xs : List ℕ). xs ++ values words (walk m words q)) more ∙ one_more items (values words (walk m words q)) x ∙ ap (λ (v : ℕ). items ++ v ∷ values words (walk m words q)) value
    ∙ ap (λ (ps : List ℕ). items ++ values words ps) (sym (walk_on n m words p q is ne next)) ∙ so_far
