-- What is counted as entries are taken, and what it tells of the next entry.
use Rattle.std.proofs.Common.{ℕ, zero, suc, ◌≡◌, ◌+◌, ◌-◌, ◌<◌, ◌≤◌, subst, Bool, false, cond, ◌&&◌, List, [], ◌∷◌, ◌++◌, length, reverse, take, set, get_or, refl, sym, ap, ◌∙◌, inl, inr, arith}
use Rattle.std.specs.Prelude.{◌==◌, sum_by, Option, Some, None, IsSome, Vec}
use Rattle.std.specs.declared.alloc.Global.{Global}
use Rattle.std.proofs.lemmas.Bool.{cases_Bool, cases_lt, cases_eq, eq-eqb, ne_eqb}
use Rattle.std.proofs.lemmas.List.{length-reverse, get_or_default, length-set, get_or-set_same, get_or-set_other, reverse-append, reverse-reverse}
use Rattle.std.proofs.lemmas.List.Sums.{sum_by_more}
use Rattle.std.proofs.lemmas.Option.{slice_get-get_or, slice_get_past}
use Rattle.rx_seq.specs.declared.kinds.Part.{Part}
use Rattle.rx_seq.specs.declared.entries.Entry.{Entry}
use Rattle.rx_seq.specs.History.{is_loud, tag_of, calls_of}
use Rattle.rx_merge.specs.Merged.{lists_of, list_at, count_of, AreOf, next_of, is_quiet_at, none_waits, is_ready, ready_of, first_below, first_ready, with_next, merged_to}
use Rattle.rx_merge.specs.MergeState.{IsKnown, AreKnown, AreStarts, AreCounts, IsMergeState, count_waiting, is_loud_on, louds_in, start_at}
use Rattle.rx_merge.proofs.Moves.{QuietStays, ReplayIsState}
use Rattle.rx_merge.proofs.Steps.{stages, step}
use Rattle.rx_merge.proofs.Whole.{size, counted}
use Rattle.rx_merge.proofs.Tallies.{list_read, length_lists, entry_read, left_more, none_waiting, start_after, place_within, counts_down, count_some, counts_same, loud_nowhere}

pub counted_more : (lists : List (Vec Entry Global)) (i : ℕ) (list : Vec Entry Global) → i < length lists → list ≡ get_or lists i list → sum_by size (take (i + 1) (lists_of lists)) ≡ sum_by size (take i (lists_of lists)) + length list.items
counted_more lists i list h is =
    sum_by_more size (lists_of lists) i [] (omega (arith, length_lists lists)) ∙ ap (λ l. sum_by size (take i (lists_of lists)) + size l) (list_read lists i list h is)

-- a place that was read
read_place : (lists : List (Vec Entry Global)) (taken : List Entry) (places tags starts waiting : List ℕ) (ended caller place : ℕ) → IsMergeState (lists_of lists) taken places tags starts waiting ended
    → caller < length lists → place ≡ get_or places caller place → place ≡ calls_of caller taken
read_place lists taken places tags starts waiting ended caller place state h at =
    at ∙ get_or_default places caller place 0 (omega (arith, length_lists lists, state.callers)) ∙ state.place caller (omega (arith, length_lists lists))

-- the tags of the entries taken are among those that are counted
few_taken : (lists : List (List Entry)) (taken : List Entry) (places tags starts waiting : List ℕ) (ended : ℕ) → IsMergeState lists taken places tags starts waiting ended → (object : ℕ) → object < length tags → tag_of object taken ≤ louds_in lists object
few_taken lists taken places tags starts waiting ended state object h = omega (arith, state.loud object h)

-- the test of the counts is the one of the definition
module _ (lists : List (List Entry)) (taken : List Entry) (places tags starts waiting : List ℕ) (ended : ℕ) (state : IsMergeState lists taken places tags starts waiting ended) (e : Entry) (known : e.object < length tags) where
  tested_place : get_or starts e.object 0 + get_or tags e.object 0 ≡ start_at lists e.object + tag_of e.object taken
  tested_place = omega (arith, state.start.at e.object known, state.tag e.object known)

  pub tested_within : get_or starts e.object 0 + get_or tags e.object 0 < length waiting
  tested_within = omega (arith, tested_place, state.wait.many, few_taken lists taken places tags starts waiting ended state e.object known, start_after lists e.object (length tags) known)

  tested_count : (get_or waiting (get_or starts e.object 0 + get_or tags e.object 0) 0 == 0) ≡ none_waits lists taken e.object (tag_of e.object taken) (length lists)
  tested_count =
      let few = few_taken lists taken places tags starts waiting ended state e.object known in
      ap (λ n. get_or waiting n 0 == 0) tested_place ∙ ap (λ n. n == 0) (state.wait.at e.object (tag_of e.object taken) known few) ∙ none_waiting lists taken e.object (tag_of e.object taken)

  pub tested_ready : is_ready lists taken e
      ≡ cond (is_loud e) ((e.tag == get_or tags e.object 0 + 1) && (get_or waiting (get_or starts e.object 0 + get_or tags e.object 0) 0 == 0)) (e.tag == get_or tags e.object 0)
  tested_ready =
      let tag = state.tag e.object known in
      sym (ap (λ b. cond (is_loud e) ((e.tag == get_or tags e.object 0 + 1) && b) (e.tag == get_or tags e.object 0)) tested_count
      ∙ ap (λ n. cond (is_loud e) ((e.tag == n + 1) && none_waits lists taken e.object (tag_of e.object taken) (length lists)) (e.tag == n)) tag)

-- an entry that is read is known, and ready if the test says so
module _ (lists : List (Vec Entry Global)) (taken : List Entry) (places tags starts waiting : List ℕ) (ended caller : ℕ) (list : Vec Entry Global) (items : List Entry) (place : ℕ) (d : Entry)
    (known : AreKnown (length tags) (lists_of lists)) (state : IsMergeState (lists_of lists) taken places tags starts waiting ended)
    (h : caller < length lists) (is : list ≡ get_or lists caller list) (value : items ≡ list.items) (at : place ≡ get_or places caller place) (within : place < length items) where
  pub read_known : (get_or items place d).object < length tags
  read_known = entry_read (IsKnown (length tags)) lists caller list items place d known h is value within

  pub read_within : get_or starts (get_or items place d).object 0 + get_or tags (get_or items place d).object 0 < length waiting
  read_within = tested_within (lists_of lists) taken places tags starts waiting ended state (get_or items place d) read_known

  read_next : next_of (lists_of lists) taken caller ≡ Some (get_or items place d)
  read_next =
      let read : list_at (lists_of lists) caller ≡ items = list_read lists caller list h is ∙ sym value in
      let stands : place ≡ calls_of caller taken = read_place lists taken places tags starts waiting ended caller place state h at in
      rw (read, sym stands) (slice_get-get_or items place d within)

  pub read_ready : (b : Bool)
      → b
      ≡ cond (is_loud (get_or items place d)) (((get_or items place d).tag == get_or tags (get_or items place d).object 0 + 1) && (get_or waiting (get_or starts (get_or items place d).object 0 + get_or tags (get_or items place d).object 0) 0 == 0)) ((get_or items place d).tag == get_or tags (get_or items place d).object 0)
      → cond b (Some (get_or items place d)) None ≡ ready_of (lists_of lists) taken caller
  read_ready b is_b =
      let same : b ≡ is_ready (lists_of lists) taken (get_or items place d) = is_b ∙ sym (tested_ready (lists_of lists) taken places tags starts waiting ended state (get_or items place d) read_known) in
      sym (rw (read_next, same) refl)

-- the first that is there, after some that are not
pub first_found : (entry_at : ℕ → Option Entry) (n k : ℕ) (e : Entry) → k < n → first_below entry_at k ≡ None → Some e ≡ entry_at k → first_below entry_at n ≡ Some e
first_found entry_at zero k e h none some = absurd (omega arith)
first_found entry_at (suc n) k e h none some = elim (cases_lt k n) [
  | inl below ↦ rw (first_found entry_at n k e below none some) refl
  | inr above ↦ let last : n ≡ k = omega arith in rw last (rw none (sym some))
]

-- callers of which all entries are taken have no next one
none_below : (entry_at : ℕ → Option Entry) (n : ℕ) → ((k : ℕ) → k < n → entry_at k ≡ None) → first_below entry_at n ≡ None
none_below entry_at zero none = refl
none_below entry_at (suc n) none = rw (none_below entry_at n (λ k h. none k (omega arith)), none n (omega arith)) refl

pub ended_unready : (lists : List (List Entry)) (taken : List Entry) (places tags starts waiting : List ℕ) (ended : ℕ) → IsMergeState lists taken places tags starts waiting ended → first_below (ready_of lists taken) ended ≡ None
ended_unready lists taken places tags starts waiting ended state =
    none_below (ready_of lists taken) ended (λ caller h. rw (slice_get_past (list_at lists caller) (calls_of caller taken) (state.whole caller h)) refl)

-- after one more entry
place_more : (taken : List Entry) (places : List ℕ) (e : Entry) (c : ℕ) → e.caller < length places → get_or places e.caller 0 ≡ calls_of e.caller taken → get_or places c 0 ≡ calls_of c taken
    → get_or (set places e.caller (get_or places e.caller 0 + 1)) c 0 ≡ calls_of c (e ∷ taken)
place_more taken places e c h own at =
    let more : ℕ = get_or places e.caller 0 + 1 in
    let here : get_or (set places e.caller more) e.caller 0 ≡ calls_of e.caller (e ∷ taken) = get_or-set_same places e.caller more 0 h ∙ (rw (eq-eqb e.caller e.caller refl) (omega (arith, own))) in
    elim (cases_eq c e.caller) [
      | inl same ↦ subst (λ n. get_or (set places e.caller more) n 0 ≡ calls_of n (e ∷ taken)) (sym same) here
      | inr other ↦ get_or-set_other places e.caller c more 0 other ∙ (rw (ne_eqb c e.caller other) (omega (arith, at)))
    ]

tag_more : (taken : List Entry) (tags : List ℕ) (e : Entry) (o : ℕ) → e.object < length tags → e.tag ≡ tag_of e.object taken + cond {A = ℕ} (is_loud e) 1 0 → get_or tags o 0 ≡ tag_of o taken
    → get_or (set tags e.object e.tag) o 0 ≡ tag_of o (e ∷ taken)
tag_more taken tags e o h own at =
    let here : get_or (set tags e.object e.tag) e.object 0 ≡ tag_of e.object (e ∷ taken) = get_or-set_same tags e.object e.tag 0 h ∙ (rw (eq-eqb e.object e.object refl) (omega (arith, own))) in
    elim (cases_eq o e.object) [
      | inl same ↦ subst (λ n. get_or (set tags e.object e.tag) n 0 ≡ tag_of n (e ∷ taken)) (sym same) here
      | inr other ↦ get_or-set_other tags e.object o e.tag 0 other ∙ (rw (ne_eqb o e.object other) (omega (arith, at)))
    ]

-- the counts with the entry taken: a quiet one is no longer left
abbrev pub waiting_after : List ℕ → List ℕ → Entry → List ℕ
waiting_after starts waiting e =
    cond (is_loud e) waiting (set waiting (get_or starts e.object 0 + e.tag) (get_or waiting (get_or starts e.object 0 + e.tag) 0 - 1))

module _ (lists : List (List Entry)) (taken : List Entry) (places tags starts waiting : List ℕ) (ended : ℕ) (e : Entry) (state : IsMergeState lists taken places tags starts waiting ended)
    (caller : e.caller < length lists) (object : e.object < length tags) (tag : e.tag ≡ tag_of e.object taken + cond {A = ℕ} (is_loud e) 1 0) (next : next_of lists taken e.caller ≡ Some e) where
  taken_place : get_or starts e.object 0 + e.tag ≡ start_at lists e.object + e.tag
  taken_place = ap (λ n. n + e.tag) (state.start.at e.object object)

  taken_low : is_loud e ≡ false → e.tag ≤ louds_in lists e.object
  taken_low quiet = omega (arith, tag, ap (λ b. cond {A = ℕ} b 1 0) quiet, few_taken lists taken places tags starts waiting ended state e.object object)

  taken_counts : AreCounts lists (length tags) (λ o t. count_waiting lists (e ∷ taken) o t + cond {A = ℕ} (is_quiet_at o t e) 1 0) waiting
  taken_counts = counts_same lists (length tags) _ _ waiting (λ o t. left_more (is_quiet_at o t) lists taken e caller next) state.wait

  pub taken_within : is_loud e ≡ false → (get_or starts e.object 0 + e.tag < length waiting) × (1 ≤ get_or waiting (get_or starts e.object 0 + e.tag) 0)
  taken_within quiet = (
    omega (arith, taken_place, state.wait.many, place_within lists (length tags) e object (taken_low quiet)),
    rw taken_place (count_some lists (length tags) e object (taken_low quiet) (count_waiting lists (e ∷ taken)) waiting quiet taken_counts),
  )

  wait_more : AreCounts lists (length tags) (count_waiting lists (e ∷ taken)) (waiting_after starts waiting e)
  wait_more = elim (cases_Bool (is_loud e)) [
    | inl loud ↦ rw loud (counts_same lists (length tags) _ _ waiting (λ o t. omega (arith, loud_nowhere o t e loud)) taken_counts)
    | inr quiet ↦ rw quiet (rw taken_place (counts_down lists (length tags) e object (taken_low quiet) (count_waiting lists (e ∷ taken)) waiting quiet taken_counts))
  ]

  pub state_more : IsMergeState lists (e ∷ taken) (set places e.caller (get_or places e.caller 0 + 1)) (set tags e.object e.tag) starts (waiting_after starts waiting e) ended
  state_more =
      let many : length (set tags e.object e.tag) ≡ length tags = length-set tags e.object e.tag in
      record {
        callers = length-set places e.caller (get_or places e.caller 0 + 1) ∙ state.callers;
        place = λ c h. place_more taken places e c (omega (arith, state.callers)) (state.place e.caller caller) (state.place c h);
        tag = λ o h. tag_more taken tags e o object tag (state.tag o (omega (arith, many)));
        loud = λ o h. omega (arith, state.loud o (omega (arith, many)), left_more (is_loud_on o) lists taken e caller next);
        start = subst (λ n. AreStarts lists n starts) (sym many) state.start;
        wait = subst (λ n. AreCounts lists n (count_waiting lists (e ∷ taken)) (waiting_after starts waiting e)) (sym many) wait_more;
        within = state.within;
        whole = λ c h. let all = state.whole c h in omega arith;
      }

calls_le : (caller : ℕ) (es : List Entry) → calls_of caller es ≤ length es
calls_le caller [] = omega arith
calls_le caller (e ∷ es) = elim (cases_Bool (caller == e.caller)) [
  | inl y ↦ rw y (omega (arith, calls_le caller es))
  | inr y ↦ rw y (omega (arith, calls_le caller es))
]

-- the next entry of the order, and what is known of it
pub record Next (objects : ℕ) (lists : List (List Entry)) (n : ℕ) (e : Entry) : Type 0 where
  pub caller : e.caller < length lists
  pub object : e.object < objects
  pub tag : e.tag ≡ tag_of e.object (merged_to lists n) + cond {A = ℕ} (is_loud e) 1 0
  pub next : next_of lists (merged_to lists n) e.caller ≡ Some e
  pub longer : merged_to lists (n + 1) ≡ e ∷ merged_to lists n
  pub few : calls_of e.caller (merged_to lists n) ≤ n

module _ (stays : QuietStays) (kept : ReplayIsState) (parts : List Part) (objects : ℕ) (lists : List (List Entry)) (history : List Entry) (are : AreOf parts objects lists history) (n : ℕ) (h : n < count_of lists) where
  next_there : (e : Entry) × (first_ready lists (merged_to lists n) ≡ Some e) × Next objects lists n e
  next_there =
      let all = counted parts objects lists history are in
      let stage = stages stays kept parts objects lists history are n (omega (arith, all)) in
      let next = step stays kept parts objects lists history are (merged_to lists n) stage.0 (omega (arith, all, stage.1)) in
      let suc_n : n + 1 ≡ suc n = omega arith in (
        next.0,
        next.1,
        record {
          caller = next.2.caller;
          object = next.2.object;
          tag = next.2.tag;
          next = next.2.next;
          longer = ap (merged_to lists) suc_n ∙ ap (λ o. with_next o (merged_to lists n)) next.1;
          few = omega (arith, calls_le next.0.caller (merged_to lists n), stage.1);
        },
      )

  next_is : (e : Entry) → first_ready lists (merged_to lists n) ≡ Some e → Next objects lists n e
  next_is e is =
      let some : Some next_there.0 ≡ Some e = sym next_there.1 ∙ is in
      let one : next_there.0 ≡ e = cc in
      subst (Next objects lists n) one next_there.2

  -- the same of the order oldest first
  module _ (order : List Entry) (is : order ≡ reverse (merged_to lists n)) where
    reversed : reverse order ≡ merged_to lists n
    reversed = ap (λ es. reverse es) is ∙ reverse-reverse (merged_to lists n)

    pub state_merged : (places tags starts waiting : List ℕ) (ended : ℕ) → IsMergeState lists (reverse order) places tags starts waiting ended → IsMergeState lists (merged_to lists n) places tags starts waiting ended
    state_merged places tags starts waiting ended state = subst (λ taken. IsMergeState lists taken places tags starts waiting ended) reversed state

    pub some_ready : IsSome (first_ready lists (reverse order))
    some_ready = rw reversed (rw next_there.1 refl)

    pub next_taken : (e : Entry) → first_ready lists (reverse order) ≡ Some e → Next objects lists n e
    next_taken e some = next_is e (rw reversed at some)

    pub order_length : length order ≡ n
    order_length =
        let stage = stages stays kept parts objects lists history are n (omega (arith, counted parts objects lists history are)) in
        ap (λ es. length es) is ∙ length-reverse (merged_to lists n) ∙ stage.1

    pub order_more : (e : Entry) → Next objects lists n e → order ++ e ∷ [] ≡ reverse (merged_to lists (n + 1))
    order_more e next = rw (next.longer, reverse-append (e ∷ []) (merged_to lists n)) (ap (λ es. es ++ e ∷ []) is)
