-- The lists have as many entries as the history, so the merged order has them all.
use Rattle.std.proofs.Common.{ℕ, zero, suc, ◌≡◌, ◌+◌, ◌<◌, ◌≤◌, subst, Bool, cond, List, [], ◌∷◌, ◌++◌, length, reverse, take, refl, sym, ap, ◌∙◌, inl, inr, arith, length-append}
use Rattle.std.specs.Prelude.{◌==◌, count_by, nat_lt, sum_by}
use Rattle.std.specs.List.{AllByRecursion}
use Rattle.std.proofs.lemmas.Bool.{cases_Bool, lt-ltb}
use Rattle.std.proofs.lemmas.Bool.Decides.{nat_tests}
use Rattle.std.proofs.lemmas.List.{nil_from_length, take_all}
use Rattle.std.proofs.lemmas.List.Sorted.{IsPermutation-reverse, length_permutation, sum_by-IsPermutation}
use Rattle.std.proofs.lemmas.List.Sums.{sum_by_more, sum_by-cons}
use Rattle.rx_seq.specs.declared.kinds.Part.{Part}
use Rattle.rx_seq.specs.declared.entries.Entry.{Entry}
use Rattle.rx_seq.specs.History.{replay, tag_of}
use Rattle.rx_seq.specs.Legal.{IsLegal, entries_of}
use Rattle.rx_merge.specs.Merged.{AreOf, list_at, count_of, merged}
use Rattle.rx_merge.specs.MergeState.{sum_below}
use Rattle.rx_merge.proofs.Filters.{entries_of_filter, tag_of_louds}
use Rattle.rx_merge.proofs.Moves.{QuietStays, ReplayIsState, Same, none_past, replay_of_louds}
use Rattle.rx_merge.proofs.Steps.{any_entry, same_are, stages}

abbrev one_if : (Entry → Bool) → Entry → ℕ
one_if passes e = cond (passes e) 1 0

-- how many entries that pass a test are of callers below a number, and of one caller
abbrev count_below : (Entry → Bool) → ℕ → List Entry → ℕ
count_below passes n [] = 0
count_below passes n (e ∷ es) = cond (nat_lt e.caller n) (one_if passes e) 0 + count_below passes n es

abbrev count_of_one : (Entry → Bool) → ℕ → List Entry → ℕ
count_of_one passes n [] = 0
count_of_one passes n (e ∷ es) = cond (n == e.caller) (one_if passes e) 0 + count_of_one passes n es

module _ (passes : Entry → Bool) where
  below_none : (es : List Entry) → count_below passes 0 es ≡ 0
  below_none [] = refl
  below_none (e ∷ es) = let one : cond {A = ℕ} (nat_lt e.caller 0) (one_if passes e) 0 ≡ 0 = grind (arith, nat_tests) in omega (arith, one, below_none es)

  below_one : (n x k : ℕ) → cond {A = ℕ} (nat_lt x (n + 1)) k 0 ≡ cond {A = ℕ} (nat_lt x n) k 0 + cond {A = ℕ} (n == x) k 0
  below_one n x k = grind (arith, nat_tests)

  below_more : (n : ℕ) (es : List Entry) → count_below passes (n + 1) es ≡ count_below passes n es + count_of_one passes n es
  below_more n [] = refl
  below_more n (e ∷ es) = omega (arith, below_one n e.caller (one_if passes e), below_more n es)

  below_all : (n : ℕ) (es : List Entry) → AllByRecursion (λ e. e.caller < n) es → count_below passes n es ≡ count_by passes es
  below_all n [] below = refl
  below_all n (e ∷ es) below = rw (lt-ltb e.caller n below.0) (ap (λ k. one_if passes e + k) (below_all n es below.1) ∙ sym (sum_by-cons (one_if passes) e es))

  of_one : (n : ℕ) (es : List Entry) → count_by passes (entries_of n es) ≡ count_of_one passes n es
  of_one n [] = refl
  of_one n (e ∷ es) = elim (cases_Bool (n == e.caller)) [
    | inl y ↦ rw y (sum_by-cons (one_if passes) e (entries_of n es) ∙ ap (λ k. one_if passes e + k) (of_one n es))
    | inr y ↦ rw y (of_one n es ∙ omega arith)
  ]

  -- the lists have as many as the history
  module _ (parts : List Part) (objects : ℕ) (lists : List (List Entry)) (history : List Entry) (are : AreOf parts objects lists history) where
    counted_one : (n : ℕ) → n < length lists → count_by passes (list_at lists n) ≡ count_of_one passes n history
    counted_one n h =
        ap (count_by passes) (are.own n h) ∙ sum_by-IsPermutation (one_if passes) (entries_of n history) (reverse (entries_of n history)) (IsPermutation-reverse (entries_of n history)) ∙ of_one n history

    counted_to : (n : ℕ) → n ≤ length lists → sum_below (λ caller. count_by passes (list_at lists caller)) n ≡ count_below passes n history
    counted_to zero h = sym (below_none history)
    counted_to (suc n) h =
        let next : suc n ≡ n + 1 = omega arith in
        omega (arith, counted_to n (omega arith), counted_one n (omega arith), below_more n history, ap (λ k. count_below passes k history) next)

    pub counted_all : sum_below (λ caller. count_by passes (list_at lists caller)) (length lists) ≡ count_by passes history
    counted_all = counted_to (length lists) (omega arith) ∙ below_all (length lists) history are.callers

-- and so as many in all
abbrev pub size : List Entry → ℕ
size list = length list

count_any : (es : List Entry) → count_by any_entry es ≡ length es
count_any [] = refl
count_any (e ∷ es) = omega (arith, sum_by-cons (one_if any_entry) e es, count_any es)

sized_to : (lists : List (List Entry)) (n : ℕ) → n ≤ length lists → sum_by size (take n lists) ≡ sum_below (λ caller. count_by any_entry (list_at lists caller)) n
sized_to lists zero h = refl
sized_to lists (suc n) h =
    let next : suc n ≡ n + 1 = omega arith in
    rw next (omega (arith, sum_by_more size lists n [] (omega arith), sized_to lists n (omega arith), count_any (list_at lists n)))

pub counted : (parts : List Part) (objects : ℕ) (lists : List (List Entry)) (history : List Entry) → AreOf parts objects lists history → count_of lists ≡ length history
counted parts objects lists history are =
    ap (sum_by size) (sym (take_all (length lists) lists (omega arith))) ∙ sized_to lists (length lists) (omega arith) ∙ counted_all any_entry parts objects lists history are ∙ count_any history

module _ (stays : QuietStays) (kept : ReplayIsState) (parts : List Part) (objects : ℕ) (lists : List (List Entry)) (history : List Entry) (are : AreOf parts objects lists history) where
  merged_whole : Same (merged lists) history × IsLegal parts 0 (merged lists)
  merged_whole =
      let all = counted parts objects lists history are in
      let last = stages stays kept parts objects lists history are (count_of lists) (omega (arith, all)) in
      let none : last.0.rest ≡ [] = nil_from_length last.0.rest (omega (arith, all, length_permutation (last.0.rest ++ merged lists) history last.0.same.all, last.1, length-append last.0.rest (merged lists))) in
      (subst (λ rest. Same (rest ++ merged lists) history) none last.0.same, subst (λ rest. IsLegal parts 0 (rest ++ merged lists)) none last.0.legal)

  pub merged_same : Same (merged lists) history
  merged_same = merged_whole.0

  -- the lists are those of the merged order too
  pub merged_are : AreOf parts objects lists (merged lists)
  merged_are = same_are parts objects lists (merged lists) history merged_same merged_whole.1 are

  pub merged_others : (caller : ℕ) → length lists ≤ caller → entries_of caller (merged lists) ≡ []
  merged_others caller h = entries_of_filter caller (merged lists) ∙ none_past (λ e. e.caller) (length lists) (merged lists) merged_are.callers caller h

  -- each object ends alike
  pub merged_tag : (object : ℕ) → tag_of object (merged lists) ≡ tag_of object history
  merged_tag object = tag_of_louds object (merged lists) ∙ ap (λ es. length es) (merged_same.loud object) ∙ sym (tag_of_louds object history)

  pub merged_state : (object : ℕ) → replay parts object (merged lists) ≡ replay parts object history
  merged_state object =
      replay_of_louds stays kept parts are.limits object (merged lists) merged_are.legal merged_are.fitting ∙ ap (replay parts object) (merged_same.loud object)
      ∙ sym (replay_of_louds stays kept parts are.limits object history are.legal are.fitting)

  pub merged_count : length (merged lists) ≡ length history
  merged_count = sym (length_permutation (merged lists) history merged_same.all)
