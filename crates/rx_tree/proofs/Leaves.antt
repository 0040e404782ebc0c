-- The root of a tree has the least key of all leaves, and a key that is written changes no other leaf.
use Rattle.std.proofs.Common.{ℕ, zero, suc, ◌≡◌, ◌≤◌, ◌<◌, ◌≢◌, ◌+◌, ◌-◌, ◌*◌, ◌/◌, ◌%◌, ◌^◌, List, length, min, set, replicate, inl, inr, sym, ◌∙◌, ap, arith, subst}
use Rattle.std.proofs.Math.Decide.{dec_le}
use Rattle.std.proofs.Math.Seq.{get_or-set_same, get_or-set_other}
use Rattle.std.proofs.Math.ListN.{get_or-replicate, length-replicate}
use Rattle.std.proofs.lemmas.List.{get_or-drop}
use Rattle.std.proofs.lemmas.Bool.Decides.{eqb_tells}
use Rattle.std.proofs.lemmas.Nat.{xor_block, shr-shr, shr_le}
use Rattle.std.specs.Prelude.{bit_xor}
use Rattle.std.specs.Int.Bits.{xor_zero_r}
use Rattle.rx_tree.specs.declared.trees.TheConstants.{LEAVES}
use Rattle.rx_tree.specs.Trees.{IsTree, IsLesser, IsLeast, key_at, keys_of}

-- no place has less than the root
root_below : (places : List ℕ) (fuel place : ℕ) → IsTree places → place ≤ fuel → 1 ≤ place → place < 2 * LEAVES → key_at places 1 ≤ key_at places place
root_below places zero place is small some inside = absurd (omega (arith, small, some))
root_below places (suc fuel) place is small some inside = elim (dec_le place 1) [
  | yes root ↦
      let same : place ≡ 1 = omega (arith, root, some) in
      subst (λ (k : ℕ). key_at places 1 ≤ key_at places k) (sym same) (omega arith)
  | no deep ↦
      let above : key_at places 1 ≤ key_at places (place / 2) = root_below places fuel (place / 2) is (omega (arith, small, deep)) (omega (arith, deep)) (omega (arith, inside)) in
      let lesser : IsLesser places (place / 2) = is.lesser (place / 2) (omega (arith, deep)) (omega (arith, inside)) in
      elim (eqb_tells place (2 * (place / 2))) [
        | inl even ↦
            let here : key_at places place ≡ key_at places (2 * (place / 2)) = ap (key_at places) even.1 in
            omega (arith, above, lesser, here)
        | inr odd ↦
            let e : place ≡ 2 * (place / 2) + 1 = omega (arith, odd.1) in
            let here : key_at places place ≡ key_at places (2 * (place / 2) + 1) = ap (key_at places) e in
            omega (arith, above, lesser, here)
      ]
]

-- each place has the key of a leaf
leaf_below : (places : List ℕ) (fuel place : ℕ) → IsTree places → 2 * LEAVES ≤ place + fuel → 1 ≤ place → place < 2 * LEAVES → (leaf : ℕ) × (leaf < LEAVES) × (key_at places place ≡ key_at places (LEAVES + leaf))
leaf_below places zero place is small some inside = absurd (omega (arith, small, inside))
leaf_below places (suc fuel) place is small some inside = elim (dec_le LEAVES place) [
  | yes leaf ↦ (place - LEAVES, omega (arith, inside), ap (key_at places) {x = place} {y = LEAVES + (place - LEAVES)} (omega (arith, leaf)))
  | no high ↦
      let lesser : IsLesser places place = is.lesser place some (omega (arith, high)) in
      elim (dec_le (key_at places (2 * place)) (key_at places (2 * place + 1))) [
        | yes left ↦
            let found = leaf_below places fuel (2 * place) is (omega (arith, small, some)) (omega (arith, some)) (omega (arith, high)) in
            (found.0, found.1, omega (arith, lesser, left, found.2))
        | no right ↦
            let found = leaf_below places fuel (2 * place + 1) is (omega (arith, small, some)) (omega (arith, some)) (omega (arith, high)) in
            (found.0, found.1, omega (arith, lesser, right, found.2))
      ]
]

-- the key at a leaf is the one at its place
pub leaf_is : (places : List ℕ) (leaf : ℕ) → key_at (keys_of places) leaf ≡ key_at places (LEAVES + leaf)
leaf_is places leaf = get_or-drop LEAVES places leaf 0

pub root_is_least : (places : List ℕ) → IsTree places → IsLeast (keys_of places) (key_at places 1)
root_is_least places is =
    let found = leaf_below places (2 * LEAVES) 1 is (omega arith) (omega arith) (omega arith) in
    record {
      found = (found.0, found.1, leaf_is places found.0 ∙ sym found.2);
      least = λ leaf inside. omega (arith, leaf_is places leaf, root_below places (LEAVES + leaf) (LEAVES + leaf) is (omega arith) (omega arith) (omega (arith, inside)));
    }

-- what is written at one place
pub key_here : (places : List ℕ) (place key : ℕ) → length places ≡ 2 * LEAVES → place < 2 * LEAVES → key_at (set places place key) place ≡ key
key_here places place key whole inside = get_or-set_same places place key 0 (omega (arith, whole, inside))

pub key_other : (places : List ℕ) (place other key : ℕ) → other ≢ place → key_at (set places place key) other ≡ key_at places other
key_other places place other key apart = get_or-set_other places place other key 0 apart

-- a key changes what its parent has to be alone
pub lesser_kept : (places : List ℕ) (place other key : ℕ) → IsLesser places other → other ≢ place → 2 * other ≢ place → 2 * other + 1 ≢ place → IsLesser (set places place key) other
lesser_kept places place other key is apart left right =
    key_other places place other key apart ∙ is
    ∙ ap (λ (n : ℕ). min n (key_at places (2 * other + 1))) (sym (key_other places place (2 * other) key left))
    ∙ ap (λ (n : ℕ). min (key_at (set places place key) (2 * other)) n) (sym (key_other places place (2 * other + 1) key right))

-- a tree whose keys are all the same
pub keys_alike : (key place : ℕ) → place < 2 * LEAVES → key_at (replicate (2 * LEAVES) key) place ≡ key
keys_alike key place inside = get_or-replicate (2 * LEAVES) place key 0 inside

pub tree_alike : (key : ℕ) → IsTree (replicate (2 * LEAVES) key)
tree_alike key = record {
  whole = length-replicate (2 * LEAVES) key;
  lesser = λ place some inside. omega (arith, keys_alike key place (omega (arith, inside)), keys_alike key (2 * place) (omega (arith, inside)), keys_alike key (2 * place + 1) (omega (arith, inside)));
}

-- the place beside a place
pub beside_is : (place : ℕ) → bit_xor place 1 ≡ 4 * (place / 2) + 1 - place
beside_is place = elim (dec_le (place % 2) 0) [
  | yes even ↦ ap (λ (n : ℕ). bit_xor n 1) {x = place} {y = place / 2 * 2 ^ 1 + 0} (omega (arith, even)) ∙ xor_block 1 (place / 2) 0 0 1 (omega arith) (omega arith) ∙ same (place / 2) 1 (omega (arith, even))
  | no odd ↦ ap (λ (n : ℕ). bit_xor n 1) {x = place} {y = place / 2 * 2 ^ 1 + 1} (omega (arith, odd)) ∙ xor_block 1 (place / 2) 0 1 1 (omega arith) (omega arith) ∙ same (place / 2) 0 (omega (arith, odd))
]
  where
    same : (half low : ℕ) → half * 2 + low ≡ 4 * (place / 2) + 1 - place → bit_xor half 0 * 2 ^ 1 + low ≡ 4 * (place / 2) + 1 - place
    same half low e = ap (λ (n : ℕ). n * 2 ^ 1 + low) (xor_zero_r half) ∙ e

-- the place above it
pub next_place : (leaf level place : ℕ) → place ≡ (LEAVES + leaf) / 2 ^ level → place / 2 ≡ (LEAVES + leaf) / 2 ^ (level + 1)
next_place leaf level place is = ap (λ (n : ℕ). n / 2) is ∙ shr-shr (LEAVES + leaf) level 1

pub place_inside : (leaf level place : ℕ) → leaf < LEAVES → place ≡ (LEAVES + leaf) / 2 ^ level → place < 2 * LEAVES
place_inside leaf level place inside is = omega (arith, is, inside, shr_le (LEAVES + leaf) level)

pub beside_inside : (place : ℕ) → place < 2 * LEAVES → bit_xor place 1 < 2 * LEAVES
beside_inside place inside = omega (arith, beside_is place, inside)

-- the lesser of a key and the one beside it is written above them
pub lesser_above : (places : List ℕ) (place least i : ℕ) → length places ≡ 2 * LEAVES → place < 2 * LEAVES → least ≡ key_at places place
    → ((k : ℕ) → 1 ≤ k → k < LEAVES → k ≢ place / 2 → IsLesser places k)
    → 1 ≤ i → i < LEAVES → i ≢ place / 2 / 2 → IsLesser (set places (place / 2) (min least (key_at places (bit_xor place 1)))) i
lesser_above places place least i whole inside is lesser some high apart = elim (eqb_tells i (place / 2)) [
  | inr other ↦ lesser_kept places (place / 2) i (min least (key_at places (bit_xor place 1))) (lesser i some high other.1) other.1 (λ e. absurd (apart (omega (arith, e)))) (λ e. absurd (apart (omega (arith, e))))
  | inl here ↦
      subst (λ (k : ℕ). IsLesser (set places (place / 2) (min least (key_at places (bit_xor place 1)))) k) (sym here.1)
      (key_here places (place / 2) (min least (key_at places (bit_xor place 1))) whole (omega (arith, inside))
      ∙ both
      ∙ ap (λ (n : ℕ). min n (key_at places (2 * (place / 2) + 1))) (sym (key_other places (place / 2) (2 * (place / 2)) (min least (key_at places (bit_xor place 1))) (λ e. absurd (omega (arith, e, here.1, some)))))
      ∙ ap (λ (n : ℕ). min (key_at (set places (place / 2) (min least (key_at places (bit_xor place 1)))) (2 * (place / 2))) n) (sym (key_other places (place / 2) (2 * (place / 2) + 1) (min least (key_at places (bit_xor place 1))) (λ e. absurd (omega (arith, e, here.1, some))))))
]
  where
    both : min least (key_at places (bit_xor place 1)) ≡ min (key_at places (2 * (place / 2))) (key_at places (2 * (place / 2) + 1))
    both = elim (dec_le (place % 2) 0) [
      | yes even ↦
          let left : key_at places place ≡ key_at places (2 * (place / 2)) = ap (key_at places) {x = place} {y = 2 * (place / 2)} (omega (arith, even)) in
          let right : key_at places (bit_xor place 1) ≡ key_at places (2 * (place / 2) + 1) = ap (key_at places) {x = bit_xor place 1} {y = 2 * (place / 2) + 1} (omega (arith, beside_is place, even)) in
          omega (arith, left, right, is)
      | no odd ↦
          let right : key_at places place ≡ key_at places (2 * (place / 2) + 1) = ap (key_at places) {x = place} {y = 2 * (place / 2) + 1} (omega (arith, odd)) in
          let left : key_at places (bit_xor place 1) ≡ key_at places (2 * (place / 2)) = ap (key_at places) {x = bit_xor place 1} {y = 2 * (place / 2)} (omega (arith, beside_is place, odd)) in
          omega (arith, left, right, is)
    ]

-- where no place is left out, all places have the lesser key
pub tree_whole : (places : List ℕ) (leaf place : ℕ) → length places ≡ 2 * LEAVES → leaf < LEAVES → place ≡ (LEAVES + leaf) / 2 ^ 6 → ((k : ℕ) → 1 ≤ k → k < LEAVES → k ≢ place / 2 → IsLesser places k) → IsTree places
tree_whole places leaf place whole inside is lesser = record { whole = whole; lesser = λ k some high. lesser k some high (λ e. absurd (omega (arith, e, is, inside, some))) }
