-- Copies that are written one after the other.
use Rattle.std.proofs.Common.{◌≡◌, ℕ, zero, suc, ◌+◌, ◌-◌, ◌<◌, ◌≤◌, List, [], ◌∷◌, ◌++◌, length, take, drop, refl, sym, ap, ◌∙◌, arith}
use Rattle.std.specs.Prelude.{slice_index}
use Rattle.std.proofs.lemmas.List.{length-drop, length-take-le}
use mathlib.Core.Logic.{dite}
use native.Mathlib.Decide.{ℕ_discrete}
use Rattle.rx_shape.specs.declared.plans.Write.{Write}
use Rattle.rx_shape.specs.declared.plans.Pair.{Pair}
use Rattle.rx_shape.specs.Nodes.{node_word, value_of, next_of}
use Rattle.rx_nodes.specs.Copies.{stations, leads, lead, copies, pairs_from}
use Rattle.rx_nodes.proofs.Paths.{length-copies, length-stations}
use Rattle.rx_nodes.proofs.Stepping.{stations_more, leads_more}

-- one more copy
pub copies_more : (k : ℕ) (own xs : List ℕ) (end n : ℕ) → n < length xs
    → take (suc n) (copies k own xs end) ≡ take n (copies k own xs end) ++ record { own = k + n; value = node_word (value_of (slice_index xs n)) (lead (suc (k + n)) own (drop (suc n) xs) end) } ∷ []
copies_more k own [] end n below = absurd (omega arith)
copies_more k own (x ∷ xs) end zero below = ap (λ (j : ℕ). record { own = j; value = node_word (value_of x) (lead (suc j) own xs end) } ∷ []) (let e : k ≡ k + 0 = omega arith in e)
copies_more k own (x ∷ xs) end (suc n) below =
    ap (λ (ws : List Write). record { own = k; value = node_word (value_of x) (lead (suc k) own xs end) } ∷ ws) (copies_more (suc k) own xs end n (omega arith))
    ∙ ap (λ (j : ℕ). record { own = k; value = node_word (value_of x) (lead (suc k) own xs end) } ∷ take n (copies (suc k) own xs end) ++ record { own = j; value = node_word (value_of (slice_index xs n)) (lead (suc j) own (drop (suc n) xs) end) } ∷ []) (let e : suc k + n ≡ k + suc n = omega arith in e)

-- where the copy of a node leads
pub lead_inner : (k : ℕ) (own xs : List ℕ) (end : ℕ) → 0 < length xs → lead k own xs end ≡ slice_index own k
lead_inner k own [] end some = absurd (omega arith)
lead_inner k own (x ∷ xs) end some = refl

pub lead_outer : (k : ℕ) (own xs : List ℕ) (end : ℕ) → length xs ≡ 0 → lead k own xs end ≡ end
lead_outer k own [] end none = refl
lead_outer k own (x ∷ xs) end none = absurd (omega arith)

-- one more pair
pub pairs_more : (k : ℕ) (ps : List ℕ) (p : ℕ) → pairs_from k (ps ++ p ∷ []) ≡ pairs_from k ps ++ record { own = k + length ps; place = p } ∷ []
pairs_more k [] p = ap (λ (j : ℕ). record { own = j; place = p } ∷ []) (let e : k ≡ k + 0 = omega arith in e)
pairs_more k (q ∷ ps) p =
    ap (λ (rs : List Pair). record { own = k; place = q } ∷ rs) (pairs_more (suc k) ps p)
    ∙ ap (λ (j : ℕ). record { own = k; place = q } ∷ pairs_from (suc k) ps ++ record { own = j; place = p } ∷ []) (let e : suc k + length ps ≡ k + suc (length ps) = omega arith in e)

-- one more node on the way
pub take_more : (xs : List ℕ) (n : ℕ) → n < length xs → take (suc n) xs ≡ take n xs ++ slice_index xs n ∷ []
take_more [] n below = absurd (omega arith)
take_more (x ∷ xs) zero below = refl
take_more (x ∷ xs) (suc n) below = ap (λ (ys : List ℕ). x ∷ ys) (take_more xs n (omega arith))

pub length-pairs : (k : ℕ) (ps : List ℕ) → length (pairs_from k ps) ≡ length ps
length-pairs k [] = refl
length-pairs k (p ∷ ps) = ap suc (length-pairs (suc k) ps)

-- the pairs so far are as many as the header and the nodes
pub pairs_many : (first p : ℕ) (xs : List ℕ) (n : ℕ) → n ≤ length xs → length (pairs_from 0 (first ∷ stations p (take n xs))) ≡ n + 1
pairs_many first p xs n le = let a = length-pairs 1 (stations p (take n xs)) in let b = length-stations p (take n xs) in let d = length-take-le n xs le in omega arith

abbrev write_at : ℕ → ℕ → Write
write_at own value = record { own = own; value = value }

-- the word of one more copy is written
pub writes_turn : (first : Write) (own xs : List ℕ) (end n next value word : ℕ) (ws new : List Write) → n < length xs → ws ≡ first ∷ take n (copies 1 own xs end)
    → (n + 1 < length xs → next ≡ slice_index own (n + 2)) → (n + 1 ≡ length xs → next ≡ end) → value ≡ value_of (slice_index xs n) → word ≡ node_word value next
    → new ≡ ws ++ record { own = n + 1; value = word } ∷ [] → new ≡ first ∷ take (n + 1) (copies 1 own xs end)
writes_turn first own xs end n next value word ws new below were inner outer value_is word_is is =
    is ∙ ap (λ (vs : List Write). vs ++ record { own = n + 1; value = word } ∷ []) were
    ∙ ap (λ (vs : List Write). first ∷ vs) (ap (λ (w : Write). take n (copies 1 own xs end) ++ w ∷ []) same ∙ sym (copies_more 1 own xs end n below) ∙ ap (λ (j : ℕ). take j (copies 1 own xs end)) (let e : suc n ≡ n + 1 = omega arith in e))
  where
    many : length (drop (suc n) xs) ≡ length xs - suc n
    many = length-drop (suc n) xs

    leads_to : next ≡ lead (suc (1 + n)) own (drop (suc n) xs) end
    leads_to = dite (ℕ_discrete (n + 1) (length xs))
        (λ all. outer all ∙ sym (lead_outer (suc (1 + n)) own (drop (suc n) xs) end (let m = many in omega arith)))
        (λ less. inner (omega arith) ∙ ap (slice_index own) (let e : n + 2 ≡ suc (1 + n) = omega arith in e) ∙ sym (lead_inner (suc (1 + n)) own (drop (suc n) xs) end (let m = many in omega arith)))

    same : write_at (n + 1) word ≡ write_at (1 + n) (node_word (value_of (slice_index xs n)) (lead (suc (1 + n)) own (drop (suc n) xs) end))
    same =
        let e : n + 1 ≡ 1 + n = omega arith in
        let f = leads_to in
        let g : word ≡ node_word (value_of (slice_index xs n)) (lead (suc (1 + n)) own (drop (suc n) xs) end) = word_is ∙ (λ j. node_word (value_is j) (f j)) in
        λ j. write_at (e j) (g j)

-- the pair of one more node
pub pairs_turn : (first p : ℕ) (xs : List ℕ) (n place : ℕ) (ps new : List Pair) → n < length xs → ps ≡ pairs_from 0 (first ∷ stations p (take n xs)) → place ≡ leads p (take n xs)
    → new ≡ ps ++ record { own = n + 1; place = place } ∷ [] → new ≡ pairs_from 0 (first ∷ stations p (take (n + 1) xs))
pairs_turn first p xs n place ps new below were place_is is =
    let many : length (stations p (take n xs)) ≡ n = length-stations p (take n xs) ∙ length-take-le n xs (omega arith) in
    let e : n + 1 ≡ 1 + length (stations p (take n xs)) = omega arith in
    is ∙ (λ j. were j ++ record { own = e j; place = place_is j } ∷ [])
    ∙ ap (λ (qs : List Pair). record { own = 0; place = first } ∷ qs) (sym (pairs_more 1 (stations p (take n xs)) (leads p (take n xs))))
    ∙ ap (pairs_from 0) (ap (λ (qs : List ℕ). first ∷ qs) (sym (stations_more p (take n xs) (slice_index xs n)) ∙ ap (stations p) (sym (take_more xs n below) ∙ ap (λ (j : ℕ). take j xs) (let e : suc n ≡ n + 1 = omega arith in e))))

-- where one more node leads
pub leads_turn : (p : ℕ) (xs : List ℕ) (n : ℕ) → n < length xs → leads p (take (n + 1) xs) ≡ next_of (slice_index xs n)
leads_turn p xs n below = ap (leads p) (ap (λ (j : ℕ). take j xs) (let e : n + 1 ≡ suc n = omega arith in e) ∙ take_more xs n below) ∙ leads_more p (take n xs) (slice_index xs n)

-- the pair of the last place
pub pairs_last : (first p : ℕ) (xs : List ℕ) (last place there : ℕ) (ps new : List Pair) → new ≡ ps ++ record { own = last; place = place } ∷ [] → last ≡ length xs + 1 → ps ≡ pairs_from 0 (first ∷ stations p xs) → place ≡ there
    → new ≡ pairs_from 0 (first ∷ stations p xs ++ there ∷ [])
pairs_last first p xs last place there ps new is last_is were place_is =
    let e : last ≡ 1 + length (stations p xs) = let l = length-stations p xs in omega arith in
    is ∙ (λ j. were j ++ record { own = e j; place = place_is j } ∷ [])
    ∙ ap (λ (qs : List Pair). record { own = 0; place = first } ∷ qs) (sym (pairs_more 1 (stations p xs) there))

-- the header's word and the copies, and the pairs of their places, are one more than the nodes
pub writes_many : (first : Write) (own xs : List ℕ) (end : ℕ) (ws : List Write) → ws ≡ first ∷ copies 1 own xs end → length ws ≡ length xs + 1
writes_many first own xs end ws is = ap length is ∙ (let m = length-copies 1 own xs end in omega arith)

pub pairs_all : (first p : ℕ) (xs : List ℕ) (ps : List Pair) → ps ≡ pairs_from 0 (first ∷ stations p xs) → length ps ≡ length xs + 1
pairs_all first p xs ps is = ap length is ∙ (let a = length-pairs 1 (stations p xs) in let b = length-stations p xs in omega arith)
