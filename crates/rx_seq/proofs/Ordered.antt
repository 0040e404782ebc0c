-- Ordered lists: where a number stands, and what stays in order.
use Rattle.std.proofs.Common.{ℕ, zero, suc, ◌≡◌, ◌≤◌, ◌<◌, ◌+◌, true, false, eqb, ltb, List, [], ◌∷◌, length, get_or, refl, ap, inl, inr, arith}
use Rattle.std.specs.List.{All, AllPairs, insert, remove}
use Rattle.std.proofs.lemmas.Bool.{lt-ltb, le-ltb, ltb-true, ltb-false, eq-eqb, eqb-false, ne_eqb, or_parts, cases_Bool, cases_lt}
use Rattle.std.proofs.lemmas.List.Elements.{All-cons, All-head, All-tail, All-weaker, All-from_get_or}
use Rattle.std.proofs.lemmas.List.Folds.{list_any_at, list_any_none}
use Rattle.std.proofs.lemmas.List.Kept.{AllPairs-cons}
use Rattle.rx_seq.specs.Table.{has_number, with_number, without_number}
use Rattle.rx_seq.specs.Places.{Stands, Belongs}

-- the numbers rise strictly
abbrev pub Rises : List ℕ → Type 0
Rises state = AllPairs (λ earlier later. earlier < later) state

pub rises_head : (n : ℕ) (ns : List ℕ) → Rises (n ∷ ns) → All (λ m. n < m) ns
rises_head n ns up k d h = up 0 (suc k) d (omega arith) (omega arith)

pub rises_tail : (n : ℕ) (ns : List ℕ) → Rises (n ∷ ns) → Rises ns
rises_tail n ns up i j d h l = up (suc i) (suc j) d (omega arith) (omega arith)

pub rises_apart : (state : List ℕ) → Rises state → (i j : ℕ) → i ≤ j → j < length state → get_or state i 0 ≤ get_or state j 0
rises_apart state up i j h l = elim (cases_lt i j) [
  | inl below ↦ let apart = up i j 0 below l in omega arith
  | inr above ↦ let same : i ≡ j = omega arith in rw same (omega arith)
]

-- the number at its place
pub with_number_at : (k : ℕ) (state : List ℕ) (place : ℕ) → place ≤ length state → ((i : ℕ) → i < place → get_or state i 0 < k) → ((i : ℕ) → place ≤ i → i < length state → k < get_or state i 0) → with_number k state ≡ insert state place k
with_number_at k [] zero l below above = refl
with_number_at k [] (suc place) l below above = absurd (omega arith)
with_number_at k (n ∷ ns) zero l below above = rw (lt-ltb k n (above 0 (omega arith) (omega arith))) refl
with_number_at k (n ∷ ns) (suc place) l below above =
    let here : n < k = below 0 (omega arith) in
    rw (le-ltb k n (omega arith)) (ap (λ xs. n ∷ xs) (with_number_at k ns place (omega arith) (λ i h. below (suc i) (omega arith)) (λ i h m. above (suc i) (omega arith) (omega arith))))

pub without_greater : (k : ℕ) (ns : List ℕ) → All (λ m. k < m) ns → without_number k ns ≡ ns
without_greater k [] above = refl
without_greater k (m ∷ ms) above =
    let here : k < m = All-head (λ m. k < m) m ms above in
    rw (ne_eqb m k (λ e. omega arith)) (ap (λ xs. m ∷ xs) (without_greater k ms (All-tail (λ m. k < m) m ms above)))

pub without_number_at : (k : ℕ) (state : List ℕ) (place : ℕ) → Rises state → place < length state → get_or state place 0 ≡ k → without_number k state ≡ remove state place
without_number_at k [] place up l e = absurd (omega arith)
without_number_at k (n ∷ ns) zero up l e =
    rw (eq-eqb n k e) (without_greater k ns (All-weaker (λ m. n < m) (λ m. k < m) (λ m h. omega arith) ns (rises_head n ns up)))
without_number_at k (n ∷ ns) (suc place) up l e =
    let later : n < get_or ns place 0 = rises_head n ns up place 0 (omega arith) in
    rw (ne_eqb n k (λ same. omega arith)) (ap (λ xs. n ∷ xs) (without_number_at k ns place (rises_tail n ns up) (omega arith) e))

pub has_number_at : (k : ℕ) (state : List ℕ) (place : ℕ) → place < length state → get_or state place 0 ≡ k → has_number k state ≡ true
has_number_at k state place l e = list_any_at (λ n. eqb n k) state place 0 l (eq-eqb (get_or state place 0) k e)

pub has_number_not : (k : ℕ) (state : List ℕ) (place : ℕ) → ((i : ℕ) → i < place → get_or state i 0 < k) → ((i : ℕ) → place ≤ i → i < length state → k < get_or state i 0) → has_number k state ≡ false
has_number_not k state place below above =
    list_any_none (λ n. eqb n k) state (All-from_get_or (λ n. eqb n k ≡ false) state 0 (λ i l. elim (cases_lt i place) [
      | inl h ↦ let low = below i h in ne_eqb (get_or state i 0) k (λ e. omega arith)
      | inr h ↦ let high = above i h l in ne_eqb (get_or state i 0) k (λ e. omega arith)
    ]))

-- what a search of the list finds
pub stands_at : (k : ℕ) (state : List ℕ) → Rises state → (place : ℕ) → (place < length state) × (get_or state place 0 ≡ k) → Stands k state place
stands_at k state up place found = record {
  within = found.0;
  has = has_number_at k state place found.0 found.1;
  others = without_number_at k state place up found.0 found.1;
}

pub belongs_at : (k : ℕ) (state : List ℕ) (place : ℕ) → (place ≤ length state) × ((i : ℕ) → i < place → get_or state i 0 < k) × ((i : ℕ) → place ≤ i → i < length state → k < get_or state i 0) → Belongs k state place
belongs_at k state place found = record {
  within = found.0;
  has_not = has_number_not k state place found.1 found.2;
  together = with_number_at k state place found.0 found.1 found.2;
}

-- what is made of a list
pub length-with_number : (k : ℕ) (state : List ℕ) → length (with_number k state) ≡ length state + 1
length-with_number k [] = refl
length-with_number k (n ∷ ns) = elim (cases_Bool (ltb k n)) [
  | inl e ↦ rw e (omega arith)
  | inr e ↦ rw e (omega (arith, length-with_number k ns))
]

pub All-with_number : (P : ℕ → Type 0) (k : ℕ) (state : List ℕ) → P k → All P state → All P (with_number k state)
All-with_number P k [] here all = All-cons P k [] here all
All-with_number P k (n ∷ ns) here all = elim (cases_Bool (ltb k n)) [
  | inl e ↦ rw e (All-cons P k (n ∷ ns) here all)
  | inr e ↦ rw e (All-cons P n (with_number k ns) (All-head P n ns all) (All-with_number P k ns here (All-tail P n ns all)))
]

pub rises-with_number : (k : ℕ) (state : List ℕ) → Rises state → has_number k state ≡ false → Rises (with_number k state)
rises-with_number k [] up not_there = λ i j d h l. absurd (omega arith)
rises-with_number k (n ∷ ns) up not_there =
    let apart = or_parts (eqb n k) (has_number k ns) not_there in
    elim (cases_Bool (ltb k n)) [
      | inl e ↦ let low : k < n = ltb-true k n e in
          rw e (AllPairs-cons (λ a b. a < b) k (n ∷ ns) (All-cons (λ m. k < m) n ns low (All-weaker (λ m. n < m) (λ m. k < m) (λ m h. omega arith) ns (rises_head n ns up))) up)
      | inr e ↦ let least : n ≤ k = ltb-false k n e in let other = eqb-false n k apart.0 in let low : n < k = omega arith in
          rw e (AllPairs-cons (λ a b. a < b) n (with_number k ns) (All-with_number (λ m. n < m) k ns low (rises_head n ns up)) (rises-with_number k ns (rises_tail n ns up) apart.1))
    ]
