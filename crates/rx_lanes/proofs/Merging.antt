-- The lists of all tasks as those of one legal history.
use Rattle.std.proofs.Common.{ℕ, zero, suc, ◌≡◌, ◌+◌, ◌<◌, ◌≤◌, ◌%◌, Bool, true, false, List, [], ◌∷◌, ◌++◌, length, map, reverse, take, drop, get_or, refl, sym, ap, ap₂, ◌∙◌, subst, arith, ◌==◌, All, IsPermutation, sum_by, mod-lt, Vec, Global}
use Rattle.std.specs.List.{AllByRecursion}
use Rattle.std.proofs.lemmas.List.{ext_get_or, get_or-map, length-map, length-reverse, reverse-reverse, take_all}
use Rattle.std.proofs.lemmas.List.Elements.{recursion_from_All, All-from_recursion, All-weaker}
use Rattle.std.proofs.lemmas.List.Sums.{sum_by_push}
use Rattle.std.proofs.lemmas.List.Sorted.{IsPermutation-map}
use Rattle.rx_seq.specs.declared.entries.Entry.{Entry}
use Rattle.rx_seq.specs.declared.kinds.Part.{Part}
use Rattle.rx_seq.specs.History.{calls_of, replay, tag_of}
use Rattle.rx_seq.specs.Legal.{IsLegal, entries_of}
use Rattle.rx_seq.specs.States.{IsFitting}
use Rattle.rx_seq.specs.Table.{IsPart}
use Rattle.rx_set.specs.System.{System, numbers, parts_of}
use Rattle.rx_set.proofs.Counts.{length-numbers, get_or-numbers}
use Rattle.rx_shape.specs.Layout.{Layout}
use Rattle.rx_table.specs.Closings.{Ending, HasEnded}
use Rattle.rx_merge.specs.Merged.{AreOf, list_at, lists_of, entries_on, louds_on, merged}
use Rattle.rx_set.specs.Operations.{asked_of, script_of}
use Rattle.rx_lanes.specs.declared.answers.Answer.{Answer}
use Rattle.rx_lanes.specs.Scripts.{calls_to, lane_script}
use Rattle.rx_lanes.specs.Histories.{HaveSameEnds, HaveSameObjects, IsMade, made_of}
use Rattle.rx_lanes.specs.Lists.{IsListOf, answer_of, plain, IsTold}
use Rattle.rx_lanes.specs.Runs.{AreLists, AreShared, AreKept, answers_at, entries_by, lists_in, table_of}
use Rattle.rx_lanes.proofs.Listing.{are_lists, lane_list, mine_only, others_none, all_tasks, asked_upto, told_upto}
use Rattle.rx_lanes.proofs.Plain.{plain_from, legal_plain, same_on, same_louds, same_ends, same_all, calls_of_length, IsBelow, all_below, below_none, below_more, below_all, count_below}
use Rattle.rx_lanes.proofs.Renaming.{renamed, Begin, renamed_plain, renamed_all, renamed_of}

-- the lists of each lane are its seat's entries
shared_from : (system : System) (jobs workers : ℕ) (history : List Entry) (answers : List (List Answer)) (lists : List (List Entry)) → AreKept system jobs workers history answers → AreLists system jobs lists
    → ((task : ℕ) → task < length system.tasks → map answer_of (list_at lists task) ≡ take (length (script_of system jobs task)) (drop (length (calls_to system jobs workers (task % workers) task)) (answers_at answers (task % workers))))
    → AreShared system workers lists history
shared_from system jobs workers history answers lists kept are told = λ lane below.
    let here = kept lane below in
    let all : List Answer = answers_at answers lane in
    let many : length all ≡ length (lane_script system jobs workers lane)
    = ap length (sym here.told) ∙ length-map (entries_by lane history) answer_of ∙ sym (length-map (entries_by lane history) asked_of) ∙ ap length here.calls in
    plain_from (entries_by lane history) (lane_list system jobs workers lists are lane)
    (here.calls ∙ sym (asked_upto system jobs workers lists are lane (length system.tasks) (omega arith)))
    (here.told ∙ sym (told_upto system jobs workers lists are (answers_at answers) told lane (length system.tasks) (omega arith) ∙ take_all (length (lane_script system jobs workers lane)) all (omega (arith, many))))

-- lists that are those of the numbers below their count
number_at : (list_of : ℕ → List Entry) (n k : ℕ) → k < n → get_or (map list_of (numbers n)) k [] ≡ list_of k
number_at list_of n k below = get_or-map list_of (numbers n) k 0 [] (omega (arith, below, length-numbers n)) ∙ ap list_of (get_or-numbers n k below)

over_numbers : (list_of : ℕ → List Entry) (n : ℕ) (lists : List (List Entry)) → length lists ≡ n → ((k : ℕ) → k < n → list_of k ≡ list_at lists k) → map list_of (numbers n) ≡ lists
over_numbers list_of n lists many each =
    let count : length (map list_of (numbers n)) ≡ n = length-map (numbers n) list_of ∙ length-numbers n in
    ext_get_or [] (map list_of (numbers n)) lists (count ∙ sym many) (λ k inside. number_at list_of n k (omega (arith, inside, count)) ∙ each k (omega (arith, inside, count)))

-- a table's history is one of the set's objects
module _ (system : System) (workers : ℕ) (layout : Layout) (history : List Entry) (is : layout ≡ table_of system workers) where
  legal_at : IsLegal layout.parts layout.first history → IsLegal (parts_of system) 0 history
  legal_at h = subst (λ (l : Layout). IsLegal l.parts l.first history) is h

  limits_at : All IsPart layout.parts → All IsPart (parts_of system)
  limits_at h = subst (λ (l : Layout). All IsPart l.parts) is h

  fitting_at : All (IsFitting layout.parts) history → All (IsFitting (parts_of system)) history
  fitting_at h = subst (λ (l : Layout). All (IsFitting l.parts) history) is h

  pub callers_at : ((seat : ℕ) → layout.seats ≤ seat → entries_of seat history ≡ []) → (seat : ℕ) → workers ≤ seat → entries_of seat history ≡ []
  callers_at h = subst (λ (l : Layout). (seat : ℕ) → l.seats ≤ seat → entries_of seat history ≡ []) is h

-- what is known of the lists, and of the history in which their calls were made
pub record IsGathered (system : System) (jobs workers : ℕ) (history : List Entry) (lists : List (List Entry)) : Type 0 where
  pub some : 1 ≤ workers
  pub are : AreLists system jobs lists
  pub shared : AreShared system workers lists history
  pub legal : IsLegal (parts_of system) 0 history
  pub limits : All IsPart (parts_of system)
  pub fitting : All (IsFitting (parts_of system)) history
  pub callers : (seat : ℕ) → workers ≤ seat → entries_of seat history ≡ []

pub gather : (system : System) (jobs workers : ℕ) (closed : Ending) (answers : List (List Answer)) (lists : List (Vec Entry Global)) → 1 ≤ workers → closed.layout ≡ table_of system workers → HasEnded closed
    → AreKept system jobs workers closed.history answers → length lists ≡ length system.tasks
    → ((task : ℕ) → task < length system.tasks → IsTold task (script_of system jobs task) (take (length (script_of system jobs task)) (drop (length (calls_to system jobs workers (task % workers) task)) (answers_at answers (task % workers)))) (list_at (lists_of lists) task))
    → IsGathered system jobs workers closed.history (lists_of lists)
gather system jobs workers closed answers lists some layout ended kept many each =
    let are : AreLists system jobs (lists_of lists) = are_lists system jobs lists _ many each in
    record {
      some = some;
      are = are;
      shared = shared_from system jobs workers closed.history answers (lists_of lists) kept are (λ task known. (each task known).told);
      legal = legal_at system workers closed.layout closed.history layout ended.legal;
      limits = limits_at system workers closed.layout closed.history layout ended.limits.parts;
      fitting = fitting_at system workers closed.layout closed.history layout ended.fitting;
      callers = callers_at system workers closed.layout closed.history layout ended.callers;
    }

-- what holds of all lists of one legal history
abbrev pub Law : (List Part → List (List Entry) → List Entry → Type 0) → Type 0
Law P = (parts : List Part) (objects : ℕ) (lists : List (List Entry)) (history : List Entry) → AreOf parts objects lists history → P parts lists history

module _ (system : System) (jobs workers : ℕ) (history : List Entry) (lists : List (List Entry)) (gathered : IsGathered system jobs workers history lists) where
  -- the last history with the tasks as callers
  abbrev pub by_tasks : List Entry
  by_tasks = renamed (lane_list system jobs workers lists gathered.are) history

  below : AllByRecursion (IsBelow workers) history
  below = all_below workers history gathered.callers

  begin : Begin (lane_list system jobs workers lists gathered.are) workers history
  begin lane h = ([], sym (gathered.shared lane h) ∙ sym (Rattle.std.proofs.Common.append-nil (map plain (entries_by lane history))))

  same_calls : map plain by_tasks ≡ map plain history
  same_calls = renamed_plain (lane_list system jobs workers lists gathered.are) workers history below begin

  tasks_below : AllByRecursion (IsBelow (length system.tasks)) by_tasks
  tasks_below = renamed_all (lane_list system jobs workers lists gathered.are) (IsBelow (length system.tasks)) (all_tasks system jobs workers lists gathered.are) workers history below begin

  whole_list : (lane : ℕ) → lane < workers → take (calls_of lane history) (lane_list system jobs workers lists gathered.are lane) ≡ lane_list system jobs workers lists gathered.are lane
  whole_list lane h =
      let many : length (lane_list system jobs workers lists gathered.are lane) ≡ calls_of lane history
      = sym (length-map (lane_list system jobs workers lists gathered.are lane) plain) ∙ ap length (sym (gathered.shared lane h)) ∙ length-map (entries_by lane history) plain ∙ length-reverse (entries_of lane history) ∙ sym (calls_of_length lane history) in
      take_all (calls_of lane history) (lane_list system jobs workers lists gathered.are lane) (omega (arith, many))

  own_list : (task : ℕ) → task < length system.tasks → reverse (entries_of task by_tasks) ≡ list_at lists task
  own_list task known =
      let mine : task % workers < workers = mod-lt task (omega (arith, gathered.some)) in
      renamed_of (lane_list system jobs workers lists gathered.are) workers task (task % workers) (λ other h apart. others_none system jobs workers lists gathered.are task other apart) history below begin
      ∙ ap (Rattle.std.specs.Prelude.filter (Rattle.rx_lanes.proofs.Plain.is_by task)) (whole_list (task % workers) mine)
      ∙ mine_only system jobs workers lists gathered.are task known

  pub are_of : (objects : ℕ) → objects ≡ length (parts_of system) → AreOf (parts_of system) objects lists by_tasks
  are_of objects count =
      let parts = parts_of system in
      let fitting : AllByRecursion (IsFitting parts) by_tasks
      = same_all (IsFitting parts) (λ e h. record { exists = h.exists; fits = h.fits }) (λ e h. record { exists = h.exists; fits = h.fits }) by_tasks history same_calls (recursion_from_All (IsFitting parts) history gathered.fitting) in
      let all : All (IsFitting parts) by_tasks = All-from_recursion (IsFitting parts) by_tasks fitting in
      let P : Entry → Type 0 = λ e. e.object < objects in
      record {
        legal = legal_plain parts 0 by_tasks history same_calls gathered.legal;
        limits = gathered.limits;
        fitting = all;
        own = λ caller h. sym (own_list caller (omega (arith, gathered.are.many)));
        callers = subst (λ (n : ℕ). AllByRecursion (IsBelow n) by_tasks) (sym gathered.are.many) tasks_below;
        known = recursion_from_All P by_tasks (All-weaker (IsFitting parts) P (λ e h. let x = h.exists in omega (arith, count)) by_tasks all);
      }

  own_count : (task : ℕ) → task < length system.tasks → calls_of task by_tasks ≡ length (script_of system jobs task)
  own_count task known =
      calls_of_length task by_tasks ∙ sym (length-reverse (entries_of task by_tasks)) ∙ ap length (own_list task known) ∙ sym (length-map (list_at lists task) asked_of) ∙ ap length (gathered.are.each task known).calls

  sizes : (n : ℕ) → n ≤ length system.tasks → sum_by (λ (task : ℕ). length (script_of system jobs task)) (numbers n) ≡ count_below n by_tasks
  sizes zero h = sym (below_none by_tasks)
  sizes (suc n) h =
      let next : suc n ≡ n + 1 = omega arith in
      let last : sum_by (λ (task : ℕ). length (script_of system jobs task)) (numbers n ++ n ∷ []) ≡ sum_by (λ (task : ℕ). length (script_of system jobs task)) (numbers n) + length (script_of system jobs n)
      = sum_by_push (λ (task : ℕ). length (script_of system jobs task)) (numbers n) n in
      let before = sizes n (omega arith) in
      let more : count_below (suc n) by_tasks ≡ count_below n by_tasks + calls_of n by_tasks = rw next (below_more n by_tasks) in
      last ∙ sym (more ∙ ap₂ (λ (a b : ℕ). a + b) (sym before) (own_count n (omega arith)))

  size : length by_tasks ≡ sum_by (λ (task : ℕ). length (script_of system jobs task)) (numbers (length system.tasks))
  size = sym (sizes (length system.tasks) (omega arith) ∙ below_all (length system.tasks) by_tasks tasks_below)

  -- what laws tell of the merged order
  module _ (order : List Entry) (order_is : order ≡ reverse (merged lists)) where
    back : reverse order ≡ merged lists
    back = ap reverse order_is ∙ reverse-reverse (merged lists)

    holds : (P : List Part → List (List Entry) → List Entry → Type 0) → Law P → P (parts_of system) lists by_tasks
    holds P law = law (parts_of system) (length (parts_of system)) lists by_tasks (are_of (length (parts_of system)) refl)

    pub order_own : Law (λ parts ls h. (caller : ℕ) → caller < length ls → reverse (entries_of caller (merged ls)) ≡ list_at ls caller) → lists_in system (reverse order) ≡ lists
    order_own law =
        let own : (caller : ℕ) → caller < length lists → reverse (entries_of caller (merged lists)) ≡ list_at lists caller = holds _ law in
        ap (lists_in system) back ∙ over_numbers (λ task. entries_by task (merged lists)) (length system.tasks) lists gathered.are.many (λ k below. own k (omega (arith, below, gathered.are.many)))

    order_legal : Law (λ parts ls h. IsLegal parts 0 (merged ls)) → IsLegal (parts_of system) 0 (reverse order)
    order_legal law = subst (IsLegal (parts_of system) 0) (sym back) (holds _ law)

    order_whole : Law (λ parts ls h. length (merged ls) ≡ length h) → length order ≡ sum_by (λ (task : ℕ). length (script_of system jobs task)) (numbers (length system.tasks))
    order_whole law = ap length order_is ∙ length-reverse (merged lists) ∙ holds _ law ∙ size

    pub order_on : Law (λ parts ls h. (object : ℕ) → louds_on object (merged ls) ≡ louds_on object h) → Law (λ parts ls h. (object : ℕ) → IsPermutation (entries_on object (merged ls)) (entries_on object h))
        → HaveSameObjects (reverse order) history
    order_on loud all = record {
      loud = λ object.
          let same : louds_on object (merged lists) ≡ louds_on object by_tasks = holds _ loud object in
          ap (λ (xs : List Entry). map plain (louds_on object xs)) back ∙ ap (map plain) same ∙ same_louds object by_tasks history same_calls;
      all = λ object.
          let same : IsPermutation (entries_on object (merged lists)) (entries_on object by_tasks) = holds _ all object in
          subst (λ (xs : List Entry). IsPermutation (map plain (entries_on object xs)) (map plain (entries_on object history))) (sym back)
          (subst (IsPermutation (map plain (entries_on object (merged lists)))) (same_on object by_tasks history same_calls) (IsPermutation-map plain (entries_on object (merged lists)) (entries_on object by_tasks) same));
    }

    pub order_ends : Law (λ parts ls h. (object : ℕ) → (tag_of object (merged ls) ≡ tag_of object h) × (replay parts object (merged ls) ≡ replay parts object h)) → HaveSameEnds (parts_of system) (reverse order) history
    order_ends law = λ object.
        let same : (tag_of object (merged lists) ≡ tag_of object by_tasks) × (replay (parts_of system) object (merged lists) ≡ replay (parts_of system) object by_tasks) = holds _ law object in
        let last = same_ends (parts_of system) object by_tasks history same_calls in
        (ap (tag_of object) back ∙ same.0 ∙ last.0, ap (replay (parts_of system) object) back ∙ same.1 ∙ last.1)

    -- all of it: so many lanes made it, in the order of the table
    pub order_made : Law (λ parts ls h. (caller : ℕ) → caller < length ls → reverse (entries_of caller (merged ls)) ≡ list_at ls caller) → Law (λ parts ls h. IsLegal parts 0 (merged ls))
        → Law (λ parts ls h. length (merged ls) ≡ length h) → HaveSameObjects (reverse order) history → IsMade (made_of system workers jobs (reverse order))
    order_made callers legal whole objects =
        let own : lists_in system (reverse order) ≡ lists = order_own callers in
        let list_in : (task : ℕ) → task < length system.tasks → list_at lists task ≡ entries_by task (reverse order)
        = λ task known. ap (λ (ls : List (List Entry)). list_at ls task) (sym own) ∙ number_at (λ (k : ℕ). entries_by k (reverse order)) (length system.tasks) task known in record {
          legal = order_legal legal;
          scripts = λ task known. subst (IsListOf task (script_of system jobs task)) (list_in task known) (gathered.are.each task known);
          whole = length-reverse order ∙ order_whole whole;
          merged = back ∙ ap merged (sym own);
          shared = record {
            order = history;
            legal = gathered.legal;
            lanes = subst (λ (ls : List (List Entry)). AreShared system workers ls history) (sym own) gathered.shared;
            objects = objects;
          };
        }
