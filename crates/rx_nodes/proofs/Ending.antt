-- What calls make of nodes of which they know enough.
use Rattle.std.proofs.Common.{◌≡◌, ◌≢◌, ℕ, ◌+◌, ◌<◌, ◌≤◌, true, false, List, [], ◌∷◌, ◌++◌, length, refl, sym, ap, ◌∙◌, subst, arith}
use Rattle.std.specs.Prelude.{slice_index, nat_lt}
use mathlib.Core.Logic.{◌⊎◌, inl, inr}
use Rattle.std.proofs.lemmas.Bool.{cases_Bool, ltb-false, ltb-true}
use Rattle.rx_seq.specs.declared.kinds.Kind.{Kind}
use Rattle.rx_seq.specs.declared.kinds.Kind.TheVariants.{Cell, Queue, Registers, List as Ordered}
use Rattle.rx_seq.specs.declared.calls.Call.{Call}
use Rattle.rx_seq.specs.declared.calls.Call.TheVariants.{Put, Take, Insert, Remove, Has}
use Rattle.rx_seq.specs.declared.replies.Reply.TheVariants.{Full, Empty, Present, Absent, Yes, No}
use Rattle.rx_seq.specs.Table.{fits_by}
use Rattle.rx_shape.specs.declared.homes.Home.{Home}
use Rattle.rx_shape.specs.Nodes.{no_place, first_of, spare_of, value_of}
use Rattle.rx_shape.specs.Forms.{node, form_of}
use Rattle.rx_nodes.specs.Copies.{leads}
use Rattle.rx_nodes.specs.Chains.{ServesNodes, IsBelow, IsSought, IsAbove, AreBelow, IsGoing, IsPassed, IsKept, IsAddition, IsRemoval}
use Rattle.rx_nodes.proofs.Facts.{full_kept, empty_kept, put_added, end_absent, end_no, end_full, end_added, found_present, found_removed, found_yes, missed_full, missed_added, missed_absent, missed_no, took}
use Rattle.rx_nodes.proofs.Stepping.{insert_kind, remove_kind, has_kind}

-- a call of nodes that is none of the others looks for a number
pub other_call : (kind : Kind) (cap : ℕ) (call : Call) → form_of kind ≡ node → fits_by kind cap call ≡ true → ((v : ℕ) → call ≡ Put v → ⊥) → (call ≡ Take → ⊥) → ((k : ℕ) → call ≡ Insert k → ⊥) → ((k : ℕ) → call ≡ Remove k → ⊥) → (k : ℕ) × (call ≡ Has k)
other_call Cell cap call form fits put take_ insert remove = cc
other_call Registers cap call form fits put take_ insert remove = cc
other_call Queue cap (Put v) form fits put take_ insert remove = absurd (put v refl)
other_call Queue cap Take form fits put take_ insert remove = absurd (take_ refl)
other_call Queue cap call form fits put take_ insert remove = cc
other_call Ordered cap (Insert k) form fits put take_ insert remove = absurd (insert k refl)
other_call Ordered cap (Remove k) form fits put take_ insert remove = absurd (remove k refl)
other_call Ordered cap (Has k) form fits put take_ insert remove = (k, refl)
other_call Ordered cap call form fits put take_ insert remove = cc

-- all nodes were read
module _ (home : Home) (call : Call) (head : ℕ) (nodes : List ℕ) (serves : ServesNodes home call) (passed : IsPassed home call head nodes) (end : leads (first_of head) nodes ≡ no_place) where
  below_as : (k : ℕ) → ((v : ℕ) → IsBelow call v → v < k) → (n : ℕ) → n < length nodes → value_of (slice_index nodes n) < k
  below_as k less n b = less (value_of (slice_index nodes n)) (passed.below n b)

  pub full_by : ((v : ℕ) × (call ≡ Put v)) ⊎ ((k : ℕ) × (call ≡ Insert k)) → spare_of head ≡ no_place → IsKept home call head nodes Full
  full_by (inl put) none = subst (λ (c : Call). IsKept home c head nodes Full) (sym put.1) (full_kept home serves.places head nodes put.0 none)
  full_by (inr insert) none = subst (λ (c : Call). IsKept home c head nodes Full) (sym insert.1)
      (end_full home (insert_kind home.part.kind home.part.cap insert.0 (ap (λ (c : Call). fits_by home.part.kind home.part.cap c) (sym insert.1) ∙ serves.fits)) serves.places head insert.0 nodes
      (below_as insert.0 (λ v b. ltb-true v insert.0 (subst (λ (c : Call). IsBelow c v) insert.1 b))) end none)

  pub added_by : ((v : ℕ) × (call ≡ Put v)) ⊎ ((k : ℕ) × (call ≡ Insert k)) → spare_of head ≢ no_place → IsAddition home call head nodes (length nodes) no_place
  added_by (inl put) some = subst (λ (c : Call). IsAddition home c head nodes (length nodes) no_place) (sym put.1) (put_added home serves.places head nodes put.0 end some (passed.room some))
  added_by (inr insert) some = subst (λ (c : Call). IsAddition home c head nodes (length nodes) no_place) (sym insert.1)
      (end_added home (insert_kind home.part.kind home.part.cap insert.0 (ap (λ (c : Call). fits_by home.part.kind home.part.cap c) (sym insert.1) ∙ serves.fits)) serves.places head insert.0 nodes
      (below_as insert.0 (λ v b. ltb-true v insert.0 (subst (λ (c : Call). IsBelow c v) insert.1 b))) end some (passed.room some))

  no_node : call ≡ Take → (xs : List ℕ) → xs ≡ nodes → first_of head ≡ no_place
  no_node is [] e = ap (leads (first_of head)) e ∙ end
  no_node is (x ∷ xs) e = let no : false ≡ true = subst (λ (c : Call). IsBelow c (value_of (slice_index nodes 0))) is (passed.below 0 (let l = ap length e in omega arith)) in cc

  pub empty_by : call ≡ Take → IsKept home call head nodes Empty
  empty_by is = subst (λ (c : Call). IsKept home c head nodes Empty) (sym is) (empty_kept home serves.places head nodes (no_node is nodes refl))

  pub absent_by : (k : ℕ) → call ≡ Remove k → IsKept home call head nodes Absent
  absent_by k is = subst (λ (c : Call). IsKept home c head nodes Absent) (sym is)
      (end_absent home (remove_kind home.part.kind home.part.cap k (ap (λ (c : Call). fits_by home.part.kind home.part.cap c) (sym is) ∙ serves.fits)) serves.places head k nodes (below_as k (λ v b. ltb-true v k (subst (λ (c : Call). IsBelow c v) is b))) end)

  pub no_by : (k : ℕ) → call ≡ Has k → IsKept home call head nodes No
  no_by k is = subst (λ (c : Call). IsKept home c head nodes No) (sym is)
      (end_no home (has_kind home.part.kind home.part.cap k (ap (λ (c : Call). fits_by home.part.kind home.part.cap c) (sym is) ∙ serves.fits)) serves.places head k nodes (below_as k (λ v b. ltb-true v k (subst (λ (c : Call). IsBelow c v) is b))) end)

-- the last node that was read has the number of the call, or a greater one
module _ (home : Home) (call : Call) (head : ℕ) (xs : List ℕ) (w : ℕ) (serves : ServesNodes home call) (below : AreBelow call xs) where
  less_as : (k : ℕ) → ((v : ℕ) → IsBelow call v → v < k) → (n : ℕ) → n < length xs → value_of (slice_index xs n) < k
  less_as k less n b = less (value_of (slice_index xs n)) (below.each n b)

  fits_as : (other : Call) → call ≡ other → fits_by home.part.kind home.part.cap other ≡ true
  fits_as other is = ap (λ (c : Call). fits_by home.part.kind home.part.cap c) (sym is) ∙ serves.fits

  pub present_by : (k : ℕ) → call ≡ Insert k → IsSought call (value_of w) → IsKept home call head (xs ++ w ∷ []) Present
  present_by k is same = subst (λ (c : Call). IsKept home c head (xs ++ w ∷ []) Present) (sym is)
      (found_present home (insert_kind home.part.kind home.part.cap k (fits_as (Insert k) is)) serves.places head k xs w (less_as k (λ v b. ltb-true v k (subst (λ (c : Call). IsBelow c v) is b))) (subst (λ (c : Call). IsSought c (value_of w)) is same))

  pub removed_by : (k : ℕ) → call ≡ Remove k → IsSought call (value_of w) → length xs + 1 ≤ home.part.cap → IsRemoval home call head (xs ++ w ∷ [])
  removed_by k is same room = subst (λ (c : Call). IsRemoval home c head (xs ++ w ∷ [])) (sym is)
      (found_removed home (remove_kind home.part.kind home.part.cap k (fits_as (Remove k) is)) serves.places head k xs w (less_as k (λ v b. ltb-true v k (subst (λ (c : Call). IsBelow c v) is b))) (subst (λ (c : Call). IsSought c (value_of w)) is same) room)

  pub yes_by : (k : ℕ) → call ≡ Has k → IsSought call (value_of w) → IsKept home call head (xs ++ w ∷ []) Yes
  yes_by k is same = subst (λ (c : Call). IsKept home c head (xs ++ w ∷ []) Yes) (sym is)
      (found_yes home (has_kind home.part.kind home.part.cap k (fits_as (Has k) is)) serves.places head k xs w (less_as k (λ v b. ltb-true v k (subst (λ (c : Call). IsBelow c v) is b))) (subst (λ (c : Call). IsSought c (value_of w)) is same))

  pub passed_full : (k : ℕ) → call ≡ Insert k → IsAbove call (value_of w) → spare_of head ≡ no_place → IsKept home call head (xs ++ w ∷ []) Full
  passed_full k is above none = subst (λ (c : Call). IsKept home c head (xs ++ w ∷ []) Full) (sym is)
      (missed_full home (insert_kind home.part.kind home.part.cap k (fits_as (Insert k) is)) serves.places head k xs w (less_as k (λ v b. ltb-true v k (subst (λ (c : Call). IsBelow c v) is b))) (subst (λ (c : Call). IsAbove c (value_of w)) is above) none)

  pub passed_added : (k : ℕ) → call ≡ Insert k → IsAbove call (value_of w) → spare_of head ≢ no_place → length xs < home.part.cap → leads (first_of head) xs < 16777216 → IsAddition home call head (xs ++ w ∷ []) (length xs) (leads (first_of head) xs)
  passed_added k is above some room small = subst (λ (c : Call). IsAddition home c head (xs ++ w ∷ []) (length xs) (leads (first_of head) xs)) (sym is)
      (missed_added home (insert_kind home.part.kind home.part.cap k (fits_as (Insert k) is)) serves.places head k xs w (less_as k (λ v b. ltb-true v k (subst (λ (c : Call). IsBelow c v) is b))) (subst (λ (c : Call). IsAbove c (value_of w)) is above) some room small)

  pub passed_absent : (k : ℕ) → call ≡ Remove k → IsAbove call (value_of w) → IsKept home call head (xs ++ w ∷ []) Absent
  passed_absent k is above = subst (λ (c : Call). IsKept home c head (xs ++ w ∷ []) Absent) (sym is)
      (missed_absent home (remove_kind home.part.kind home.part.cap k (fits_as (Remove k) is)) serves.places head k xs w (less_as k (λ v b. ltb-true v k (subst (λ (c : Call). IsBelow c v) is b))) (subst (λ (c : Call). IsAbove c (value_of w)) is above))

  pub passed_no : (k : ℕ) → call ≡ Has k → IsAbove call (value_of w) → IsKept home call head (xs ++ w ∷ []) No
  passed_no k is above = subst (λ (c : Call). IsKept home c head (xs ++ w ∷ []) No) (sym is)
      (missed_no home (has_kind home.part.kind home.part.cap k (fits_as (Has k) is)) serves.places head k xs w (less_as k (λ v b. ltb-true v k (subst (λ (c : Call). IsBelow c v) is b))) (subst (λ (c : Call). IsAbove c (value_of w)) is above))

-- a call that looks for a number is one of three
pub sought_call : (call : Call) (value : ℕ) → IsSought call value → ((k : ℕ) → call ≡ Insert k → ⊥) → ((k : ℕ) → call ≡ Remove k → ⊥) → (k : ℕ) × (call ≡ Has k)
sought_call (Insert k) value is insert remove = absurd (insert k refl)
sought_call (Remove k) value is insert remove = absurd (remove k refl)
sought_call (Has k) value is insert remove = (k, refl)
sought_call call value is insert remove = absurd is

pub above_call : (call : Call) (value : ℕ) → IsAbove call value → ((k : ℕ) → call ≡ Insert k → ⊥) → ((k : ℕ) → call ≡ Remove k → ⊥) → (k : ℕ) × (call ≡ Has k)
above_call (Insert k) value is insert remove = absurd (insert k refl)
above_call (Remove k) value is insert remove = absurd (remove k refl)
above_call (Has k) value is insert remove = (k, refl)
above_call call value is insert remove = absurd is

-- a call of nodes that is none of the others takes the first one
pub take_call : (kind : Kind) (cap : ℕ) (call : Call) → form_of kind ≡ node → fits_by kind cap call ≡ true → ((v : ℕ) → call ≡ Put v → ⊥) → ((k : ℕ) → call ≡ Insert k → ⊥) → ((k : ℕ) → call ≡ Remove k → ⊥) → ((k : ℕ) → call ≡ Has k → ⊥) → call ≡ Take
take_call Cell cap call form fits put insert remove has = cc
take_call Registers cap call form fits put insert remove has = cc
take_call Queue cap (Put v) form fits put insert remove has = absurd (put v refl)
take_call Queue cap Take form fits put insert remove has = refl
take_call Queue cap call form fits put insert remove has = cc
take_call Ordered cap (Insert k) form fits put insert remove has = absurd (insert k refl)
take_call Ordered cap (Remove k) form fits put insert remove has = absurd (remove k refl)
take_call Ordered cap (Has k) form fits put insert remove has = absurd (has k refl)
take_call Ordered cap call form fits put insert remove has = cc

-- a take has passed no node by
pub took_by : (home : Home) (call : Call) (head : ℕ) (xs : List ℕ) (w place : ℕ) → call ≡ Take → IsGoing home call head xs place → home.first + home.count ≤ no_place → 1 ≤ home.part.cap → IsRemoval home call head (xs ++ w ∷ [])
took_by home call head [] w place is going few least = subst (λ (c : Call). IsRemoval home c head (w ∷ [])) (sym is) (took home few head (w ∷ []) w refl least)
took_by home call head (x ∷ xs) w place is going few least = let no : false ≡ true = subst (λ (c : Call). IsBelow c (value_of x)) is (going.below 0 (omega arith)) in cc

-- a value that is not below a number, and is another one, is above it
pub above_by : (k value : ℕ) → (nat_lt value k ≡ true → ⊥) → (value ≡ k → ⊥) → k < value
above_by k value not_below differs = elim (cases_Bool (nat_lt value k)) [
  | inl less ↦ absurd (not_below less)
  | inr more ↦ let most = ltb-false value k more in omega arith
]
