-- A history that three lanes make, so that what is said of such histories is not empty, and histories with and without the same entries.
use Rattle.std.proofs.Common.{ℕ, zero, suc, ◌≡◌, ◌+◌, ◌<◌, List, [], ◌∷◌, IsPermutation, map, slice_get, Some, None, refl, inl, inr, ◌==◌, arith}
use Rattle.std.proofs.lemmas.Bool.{cases_Bool}
use Rattle.std.proofs.lemmas.List.Sorted.{IsPermutation-refl, IsPermutation-swap, sum_by-IsPermutation}
use Rattle.rx_seq.specs.declared.calls.Call.TheVariants.{Get, Add}
use Rattle.rx_seq.specs.declared.entries.Entry.{Entry}
use Rattle.rx_seq.specs.Legal.{IsLegal}
use Rattle.rx_set.specs.System.{parts_of}
use Rattle.rx_set.specs.Operations.{script_of}
use Rattle.rx_merge.specs.Merged.{entries_on, louds_on}
use Rattle.rx_lanes.specs.Lists.{IsListOf, plain}
use Rattle.rx_lanes.specs.Runs.{IsShared, entries_by, lists_in}
use Rattle.rx_lanes.specs.Histories.{HaveSameObjects, IsMade, made_of}
use Rattle.rx_lanes.specs.Rows.{three, order, made}

-- the numbers of one entry, and of two
one : (caller place : ℕ) (x entry : Entry) → x.caller ≡ caller → x.index ≡ 1 → slice_get (x ∷ []) place ≡ Some entry → (entry.caller ≡ caller) × (entry.index ≡ place + 1)
one caller zero x entry mine number e = (cc, cc)
one caller (suc place) x entry mine number e = absurd (none e)
  where
    none : None ≡ Some entry → ⊥
    none e = cc

two : (caller place : ℕ) (x y entry : Entry) → x.caller ≡ caller → x.index ≡ 1 → y.caller ≡ caller → y.index ≡ 2 → slice_get (x ∷ y ∷ []) place ≡ Some entry → (entry.caller ≡ caller) × (entry.index ≡ place + 1)
two caller zero x y entry mine number also next e = (cc, cc)
two caller (suc zero) x y entry mine number also next e = (cc, cc)
two caller (suc (suc place)) x y entry mine number also next e = absurd (none e)
  where
    none : None ≡ Some entry → ⊥
    none e = cc

no_entry : (caller place : ℕ) (entry : Entry) → slice_get [] place ≡ Some entry → (entry.caller ≡ caller) × (entry.index ≡ place + 1)
no_entry caller place entry e = absurd (none e)
  where
    none : None ≡ Some entry → ⊥
    none e = cc

scripts : (task : ℕ) → task < 3 → IsListOf task (script_of three 1 task) (entries_by task order)
scripts zero known = record { calls = refl; own = λ place entry e. two 0 place (made 0 1 (Add 1) 1 1) (made 0 2 Get 6 2) entry refl refl refl refl e }
scripts (suc zero) known = record { calls = refl; own = no_entry 1 }
scripts (suc (suc zero)) known = record { calls = refl; own = λ place entry e. one 2 place (made 2 1 (Add 5) 6 2) entry refl refl e }
scripts (suc (suc (suc task))) known = absurd (omega (arith, known))

shared : (lane : ℕ) → lane < 3 → IsShared three 3 (lists_in three order) order lane
shared zero known = refl
shared (suc zero) known = refl
shared (suc (suc zero)) known = refl
shared (suc (suc (suc lane))) known = absurd (omega (arith, known))

legal : IsLegal (parts_of three) 0 order
legal = (refl, refl, (refl, refl, (refl, refl, tt)))

-- three lanes, each of which makes one of the three tasks, can make it
pub made_by_three : IsMade (made_of three 3 1 order)
made_by_three = record {
  legal = legal;
  scripts = scripts;
  whole = refl;
  merged = refl;
  shared = record { order = order; legal = legal; lanes = shared; objects = record { loud = λ object. refl; all = λ object. IsPermutation-refl (map plain (entries_on object order)) } };
}

-- a look and an addition of 0 after the same add may stand in either order
module _ where
  abbrev look_first : List Entry
  look_first = made 2 1 (Add 0) 1 1 ∷ made 0 2 Get 1 1 ∷ made 0 1 (Add 1) 1 1 ∷ []

  abbrev look_last : List Entry
  look_last = made 0 2 Get 1 1 ∷ made 2 1 (Add 0) 1 1 ∷ made 0 1 (Add 1) 1 1 ∷ []

  loud : (object : ℕ) → map plain (louds_on object look_first) ≡ map plain (louds_on object look_last)
  loud object = elim (cases_Bool (object == 0)) [
    | inl y ↦ rw y refl
    | inr n ↦ rw n refl
  ]

  all : (object : ℕ) → IsPermutation (map plain (entries_on object look_first)) (map plain (entries_on object look_last))
  all object = elim (cases_Bool (object == 0)) [
    | inl y ↦ rw y (IsPermutation-swap (map plain look_first) (map plain look_last) 0 1 (omega arith) (omega arith) refl)
    | inr n ↦ rw n (IsPermutation-refl [])
  ]

  either_way : HaveSameObjects look_first look_last
  either_way = record { loud = loud; all = all }

-- a history without its look has not the same entries
dropped : HaveSameObjects order (made 2 1 (Add 5) 6 2 ∷ made 0 1 (Add 1) 1 1 ∷ []) → ⊥
dropped same =
    let many : 2 ≡ 3 = sum_by-IsPermutation (λ (entry : Entry). 1) (map plain order) (map plain (made 2 1 (Add 5) 6 2 ∷ made 0 1 (Add 1) 1 1 ∷ [])) (same.all 0) in
    absurd (omega (arith, many))

-- nor has one in which it stands before an add that came before it: it has another tag there
moved : HaveSameObjects order (made 2 1 (Add 5) 6 2 ∷ made 0 2 Get 1 1 ∷ made 0 1 (Add 1) 1 1 ∷ []) → ⊥
moved same =
    let tags : 4 ≡ 5 = sum_by-IsPermutation (λ (entry : Entry). entry.tag) (map plain order) (map plain (made 2 1 (Add 5) 6 2 ∷ made 0 2 Get 1 1 ∷ made 0 1 (Add 1) 1 1 ∷ [])) (same.all 0) in
    absurd (omega (arith, tags))
