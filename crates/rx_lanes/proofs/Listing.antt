-- The entries of a task from its script and its answers.
use Rattle.std.proofs.Common.{ℕ, zero, suc, ◌≡◌, ◌≢◌, ◌+◌, ◌<◌, ◌≤◌, ◌%◌, Bool, true, false, List, [], ◌∷◌, ◌++◌, length, map, take, drop, get_or, slice_get, Some, refl, sym, ap, ap₂, ◌∙◌, subst, inl, inr, arith, length-append, append-nil, ◌==◌, eq-eqb, ne_eqb, take-add, Vec, Global}
use Rattle.std.specs.Prelude.{filter}
use Rattle.std.specs.List.{flat_map}
use Rattle.std.proofs.Math.Decide.{dec_le}
use Rattle.std.proofs.lemmas.Bool.{cases_Bool, eqb-true}
use Rattle.std.proofs.lemmas.List.{length-map, map-append, map_push, take_more, get_or-map, get_or_append_left, get_or_push}
use Rattle.std.proofs.lemmas.List.Elements.{filter-append}
use Rattle.std.proofs.lemmas.Option.{same_Some, none-some}
use Rattle.rx_seq.specs.declared.entries.Entry.{Entry}
use Rattle.rx_set.specs.System.{System}
use Rattle.rx_merge.specs.Merged.{list_at, lists_of}
use Rattle.rx_set.specs.Operations.{Asked, asked_of, script_of}
use Rattle.rx_lanes.specs.declared.answers.Answer.{Answer}
use Rattle.rx_lanes.specs.Scripts.{is_of, share, calls_to}
use Rattle.rx_lanes.specs.Lists.{answer_of, IsTold}
use Rattle.rx_lanes.specs.Runs.{AreLists, answers_at, items_of}
use Rattle.rx_lanes.proofs.Parts.{over_yes, over_no}
use Rattle.rx_lanes.proofs.Plain.{is_by}

-- what holds at each place of a list and of one more entry
place_more : (P : ℕ → Entry → Type 0) (list : List Entry) (last : Entry) → ((place : ℕ) (entry : Entry) → slice_get list place ≡ Some entry → P place entry) → P (length list) last
    → (place : ℕ) (entry : Entry) → slice_get (list ++ last ∷ []) place ≡ Some entry → P place entry
place_more P [] last all here zero entry at = subst (P zero) (same_Some last entry at) here
place_more P [] last all here (suc place) entry at = absurd (none-some entry at)
place_more P (x ∷ list) last all here zero entry at = all zero entry at
place_more P (x ∷ list) last all here (suc place) entry at =
    let same : length (x ∷ list) ≡ suc (length list) = refl in
    place_more (λ (k : ℕ) (e : Entry). P (suc k) e) list last (λ k e h. all (suc k) e h) (subst (λ (n : ℕ). P n last) same here) place entry at

-- no entry yet, and one more
pub told_none : (caller : ℕ) (list : List Entry) (answers : List Answer) → list ≡ [] → answers ≡ [] → IsTold caller [] answers list
told_none caller list answers empty none = rw (empty, none) (record { is = record { calls = refl; own = λ place entry at. absurd (none_some place entry at) }; told = refl })
  where
    none_some : (place : ℕ) (x : Entry) → slice_get [] place ≡ Some x → ⊥
    none_some zero x e = cc
    none_some (suc place) x e = cc

pub told_more : (caller : ℕ) (script : List Asked) (answers : List Answer) (list more : List Entry) (entry : Entry) (d : Answer) → IsTold caller script (take (length list) answers) list → more ≡ list ++ entry ∷ []
    → length list < length answers → answer_of entry ≡ get_or answers (length list) d → entry.caller ≡ caller → entry.index ≡ length list + 1 → IsTold caller (script ++ asked_of entry ∷ []) (take (length more) answers) more
told_more caller script answers list more entry d h is inside told mine index =
    let many : length more ≡ length list + 1 = ap length is ∙ length-append list (entry ∷ []) in
    rw (many, is) (record {
      is = record {
        calls = map_push asked_of list entry ∙ ap (λ (xs : List Asked). xs ++ asked_of entry ∷ []) h.is.calls;
        own = place_more (λ (k : ℕ) (e : Entry). (e.caller ≡ caller) × (e.index ≡ k + 1)) list entry h.is.own (mine, index);
      };
      told = map_push answer_of list entry ∙ ap₂ (λ (xs : List Answer) (x : Answer). xs ++ x ∷ []) h.told told ∙ sym (take_more answers (length list) d inside);
    })

-- the entries of one caller pass its test, and no other
pub all_by : (caller : ℕ) (list : List Entry) → ((place : ℕ) (entry : Entry) → slice_get list place ≡ Some entry → entry.caller ≡ caller) → filter (is_by caller) list ≡ list
all_by caller [] h = refl
all_by caller (x ∷ list) h =
    let mine : is_by caller x ≡ true = eq-eqb caller x.caller (sym (h zero x refl)) in
    rw mine (ap (λ (xs : List Entry). x ∷ xs) (all_by caller list (λ place entry at. h (suc place) entry at)))

pub none_by : (caller other : ℕ) (list : List Entry) → caller ≢ other → ((place : ℕ) (entry : Entry) → slice_get list place ≡ Some entry → entry.caller ≡ other) → filter (is_by caller) list ≡ []
none_by caller other [] apart h = refl
none_by caller other (x ∷ list) apart h =
    let out : is_by caller x ≡ false = ne_eqb caller x.caller (λ same. apart (same ∙ h zero x refl)) in
    rw out (none_by caller other list apart (λ place entry at. h (suc place) entry at))

at_below : (bound : ℕ) (list : List Entry) → ((place : ℕ) (entry : Entry) → slice_get list place ≡ Some entry → entry.caller < bound) → (k : ℕ) (d : Entry) → k < length list → (get_or list k d).caller < bound
at_below bound [] h k d inside = absurd (omega arith)
at_below bound (x ∷ list) h zero d inside = h zero x refl
at_below bound (x ∷ list) h (suc k) d inside = at_below bound list (λ place entry at. h (suc place) entry at) k d (omega arith)

at_both : (P : Entry → Type 0) (xs ys : List Entry) → ((k : ℕ) (d : Entry) → k < length xs → P (get_or xs k d)) → ((k : ℕ) (d : Entry) → k < length ys → P (get_or ys k d)) → (k : ℕ) (d : Entry) → k < length (xs ++ ys) → P (get_or (xs ++ ys) k d)
at_both P [] ys f g k d inside = g k d inside
at_both P (x ∷ xs) ys f g zero d inside = f zero d (omega arith)
at_both P (x ∷ xs) ys f g (suc k) d inside = at_both P xs ys (λ j e h. f (suc j) e (omega arith)) g k d (omega arith)

module _ (system : System) (jobs workers : ℕ) (lists : List (List Entry)) (are : AreLists system jobs lists) where
  -- the lists of a lane's tasks, one after the other
  abbrev pub lane_list : ℕ → List Entry
  lane_list lane = flat_map (list_at lists) (share (length system.tasks) workers lane)

  upto : ℕ → ℕ → List Entry
  upto lane m = flat_map (list_at lists) (share m workers lane)

  callers : (task : ℕ) → task < length system.tasks → (place : ℕ) (entry : Entry) → slice_get (list_at lists task) place ≡ Some entry → entry.caller ≡ task
  callers task known place entry at = ((are.each task known).own place entry at).0

  -- where a caller's task is not among them, no entry is of the caller
  none_upto : (caller lane m : ℕ) → m ≤ length system.tasks → ((task : ℕ) → task < m → is_of workers lane task ≡ true → caller ≢ task) → filter (is_by caller) (flat_map (list_at lists) (share m workers lane)) ≡ []
  none_upto caller lane zero h apart = refl
  none_upto caller lane (suc m) h apart =
      let next : suc m ≡ m + 1 = omega arith in
      let before = none_upto caller lane m (omega arith) (λ task below mine. apart task (omega arith) mine) in
      subst (λ (k : ℕ). filter (is_by caller) (flat_map (list_at lists) (share k workers lane)) ≡ []) (sym next) (elim (cases_Bool (is_of workers lane m)) [
        | inl y ↦
            ap (filter (is_by caller)) (over_yes (list_at lists) workers lane m y) ∙ filter-append (is_by caller) (flat_map (list_at lists) (share m workers lane)) (list_at lists m)
            ∙ ap₂ (λ (xs ys : List Entry). xs ++ ys) before (none_by caller m (list_at lists m) (apart m (omega arith) y) (callers m (omega arith)))
        | inr y ↦ ap (filter (is_by caller)) (over_no (list_at lists) workers lane m y) ∙ before
      ])

  -- and where it is, they are the caller's list
  list_upto : (caller lane m : ℕ) → m ≤ length system.tasks → caller < m → is_of workers lane caller ≡ true → filter (is_by caller) (flat_map (list_at lists) (share m workers lane)) ≡ list_at lists caller
  list_upto caller lane zero h below mine = absurd (omega arith)
  list_upto caller lane (suc m) h below mine =
      let next : suc m ≡ m + 1 = omega arith in
      subst (λ (k : ℕ). filter (is_by caller) (flat_map (list_at lists) (share k workers lane)) ≡ list_at lists caller) (sym next) (elim (dec_le (suc caller) m) [
        | yes early ↦
            let before = list_upto caller lane m (omega arith) (omega arith) mine in
            let apart : caller ≢ m = λ same. absurd (omega arith) in
            elim (cases_Bool (is_of workers lane m)) [
              | inl y ↦
                  ap (filter (is_by caller)) (over_yes (list_at lists) workers lane m y) ∙ filter-append (is_by caller) (flat_map (list_at lists) (share m workers lane)) (list_at lists m)
                  ∙ ap₂ (λ (xs ys : List Entry). xs ++ ys) before (none_by caller m (list_at lists m) apart (callers m (omega arith))) ∙ append-nil (list_at lists caller)
              | inr y ↦ ap (filter (is_by caller)) (over_no (list_at lists) workers lane m y) ∙ before
            ]
        | no late ↦
            let same : m ≡ caller = omega arith in
            let none = none_upto caller lane m (omega arith) (λ task under other equal. absurd (omega arith)) in
            let here : is_of workers lane m ≡ true = rw same mine in
            ap (filter (is_by caller)) (over_yes (list_at lists) workers lane m here) ∙ filter-append (is_by caller) (flat_map (list_at lists) (share m workers lane)) (list_at lists m)
            ∙ ap (λ (xs : List Entry). xs ++ filter (is_by caller) (list_at lists m)) none
            ∙ ap (λ (k : ℕ). filter (is_by caller) (list_at lists k)) same ∙ all_by caller (list_at lists caller) (callers caller (omega arith))
      ])

  pub mine_only : (caller : ℕ) → caller < length system.tasks → filter (is_by caller) (lane_list (caller % workers)) ≡ list_at lists caller
  mine_only caller known = list_upto caller (caller % workers) (length system.tasks) (omega arith) known (eq-eqb (caller % workers) (caller % workers) refl)

  pub others_none : (caller other : ℕ) → ((caller % workers) == other) ≡ false → filter (is_by caller) (lane_list other) ≡ []
  others_none caller other apart =
      none_upto caller other (length system.tasks) (omega arith) (λ task below mine same. differ ((caller % workers) == other) apart (ap (λ (k : ℕ). (k % workers) == other) same ∙ mine))
    where
      differ : (b : Bool) → b ≡ false → b ≡ true → ⊥
      differ b f t = cc

  -- each entry of them is a task's
  below_upto : (lane m : ℕ) → m ≤ length system.tasks → (k : ℕ) (d : Entry) → k < length (flat_map (list_at lists) (share m workers lane)) → (get_or (flat_map (list_at lists) (share m workers lane)) k d).caller < length system.tasks
  below_upto lane zero h = λ k d inside. absurd (omega arith)
  below_upto lane (suc m) h =
      let next : suc m ≡ m + 1 = omega arith in
      let P : Entry → Type 0 = λ e. e.caller < length system.tasks in
      let All_at : List Entry → Type 0 = λ xs. (k : ℕ) (d : Entry) → k < length xs → P (get_or xs k d) in
      let before : All_at (flat_map (list_at lists) (share m workers lane)) = below_upto lane m (omega arith) in
      subst (λ (n : ℕ). All_at (flat_map (list_at lists) (share n workers lane))) (sym next) (elim (cases_Bool (is_of workers lane m)) [
        | inl y ↦
            subst All_at (sym (over_yes (list_at lists) workers lane m y))
            (at_both P (flat_map (list_at lists) (share m workers lane)) (list_at lists m) before
            (at_below (length system.tasks) (list_at lists m) (λ place entry at. let c = callers m (omega arith) place entry at in omega arith)))
        | inr y ↦ subst All_at (sym (over_no (list_at lists) workers lane m y)) before
      ])

  pub all_tasks : (lane k : ℕ) (d : Entry) → k < length (lane_list lane) → (get_or (lane_list lane) k d).caller < length system.tasks
  all_tasks lane = below_upto lane (length system.tasks) (omega arith)

  -- the operations of a lane's lists are its calls
  pub asked_upto : (lane m : ℕ) → m ≤ length system.tasks → map asked_of (flat_map (list_at lists) (share m workers lane)) ≡ calls_to system jobs workers lane m
  asked_upto lane zero h = refl
  asked_upto lane (suc m) h =
      let next : suc m ≡ m + 1 = omega arith in
      let before = asked_upto lane m (omega arith) in
      subst (λ (k : ℕ). map asked_of (flat_map (list_at lists) (share k workers lane)) ≡ calls_to system jobs workers lane k) (sym next) (elim (cases_Bool (is_of workers lane m)) [
        | inl y ↦
            ap (map asked_of) (over_yes (list_at lists) workers lane m y) ∙ map-append asked_of (flat_map (list_at lists) (share m workers lane)) (list_at lists m)
            ∙ ap₂ (λ (xs ys : List Asked). xs ++ ys) before (are.each m (omega arith)).calls ∙ sym (over_yes (script_of system jobs) workers lane m y)
        | inr y ↦ ap (map asked_of) (over_no (list_at lists) workers lane m y) ∙ before ∙ sym (over_no (script_of system jobs) workers lane m y)
      ])

  -- and their answers are those of the lane
  pub told_upto : (answers : ℕ → List Answer)
      → ((task : ℕ) → task < length system.tasks → map answer_of (list_at lists task) ≡ take (length (script_of system jobs task)) (drop (length (calls_to system jobs workers (task % workers) task)) (answers (task % workers))))
      → (lane m : ℕ) → m ≤ length system.tasks → map answer_of (flat_map (list_at lists) (share m workers lane)) ≡ take (length (calls_to system jobs workers lane m)) (answers lane)
  told_upto answers told lane zero h = refl
  told_upto answers told lane (suc m) h =
      let next : suc m ≡ m + 1 = omega arith in
      let before = told_upto answers told lane m (omega arith) in
      subst (λ (k : ℕ). map answer_of (flat_map (list_at lists) (share k workers lane)) ≡ take (length (calls_to system jobs workers lane k)) (answers lane)) (sym next) (elim (cases_Bool (is_of workers lane m)) [
        | inl y ↦
            let lane_is : m % workers ≡ lane = eqb-true (m % workers) lane y in
            let here : map answer_of (list_at lists m) ≡ take (length (script_of system jobs m)) (drop (length (calls_to system jobs workers lane m)) (answers lane)) = rw lane_is at (told m (omega arith)) in
            let many : length (calls_to system jobs workers lane (m + 1)) ≡ length (calls_to system jobs workers lane m) + length (script_of system jobs m)
            = ap length (over_yes (script_of system jobs) workers lane m y) ∙ length-append (calls_to system jobs workers lane m) (script_of system jobs m) in
            ap (map answer_of) (over_yes (list_at lists) workers lane m y) ∙ map-append answer_of (flat_map (list_at lists) (share m workers lane)) (list_at lists m)
            ∙ ap₂ (λ (xs ys : List Answer). xs ++ ys) before here
            ∙ sym (take-add (length (calls_to system jobs workers lane m)) (length (script_of system jobs m)) (answers lane))
            ∙ ap (λ (k : ℕ). take k (answers lane)) (sym many)
        | inr y ↦
            ap (map answer_of) (over_no (list_at lists) workers lane m y) ∙ before
            ∙ ap (λ (xs : List Asked). take (length xs) (answers lane)) (sym (over_no (script_of system jobs) workers lane m y))
      ])

-- lists and answers in memory
pub items_at : (answers : List (Vec Answer Global)) (k : ℕ) (d : Vec Answer Global) → k < length answers → (get_or answers k d).items ≡ answers_at (items_of answers) k
items_at answers k d inside = sym (get_or-map (λ (v : Vec Answer Global). v.items) answers k d [] inside)

list_old : (lists more : List (Vec Entry Global)) (list : Vec Entry Global) (k : ℕ) → more ≡ (lists ++ list ∷ []) → k < length lists → list_at (lists_of more) k ≡ list_at (lists_of lists) k
list_old lists more list k is inside =
    ap (λ (ls : List (Vec Entry Global)). list_at (lists_of ls) k) is
    ∙ ap (λ (ls : List (List Entry)). list_at ls k) (map_push (λ (v : Vec Entry Global). v.items) lists list)
    ∙ get_or_append_left (lists_of lists) (list.items ∷ []) [] k (omega (arith, inside, length-map lists (λ (v : Vec Entry Global). v.items)))

list_new : (lists more : List (Vec Entry Global)) (list : Vec Entry Global) (k : ℕ) → more ≡ (lists ++ list ∷ []) → length lists ≡ k → list_at (lists_of more) k ≡ list.items
list_new lists more list k is many =
    ap (λ (ls : List (Vec Entry Global)). list_at (lists_of ls) k) is
    ∙ ap (λ (ls : List (List Entry)). list_at ls k) (map_push (λ (v : Vec Entry Global). v.items) lists list)
    ∙ get_or_push (lists_of lists) list.items [] k (length-map lists (λ (v : Vec Entry Global). v.items) ∙ many)

pub each_more : (P : ℕ → List Entry → Type 0) (lists more : List (Vec Entry Global)) (list : Vec Entry Global) (n : ℕ) → more ≡ (lists ++ list ∷ []) → length lists ≡ n
    → ((k : ℕ) → k < n → P k (list_at (lists_of lists) k)) → P n list.items → (k : ℕ) → k < n + 1 → P k (list_at (lists_of more) k)
each_more P lists more list n is many all last k h = elim (dec_le (suc k) n) [
  | yes early ↦ subst (P k) (sym (list_old lists more list k is (omega (arith, early, many)))) (all k early)
  | no late ↦
      let same : n ≡ k = omega arith in
      subst (P k) (sym (list_new lists more list k is (many ∙ same))) (subst (λ (j : ℕ). P j list.items) same last)
]

pub are_lists : (system : System) (jobs : ℕ) (lists : List (Vec Entry Global)) (answers : ℕ → List Answer) → length lists ≡ length system.tasks → ((task : ℕ) → task < length system.tasks → IsTold task (script_of system jobs task) (answers task) (list_at (lists_of lists) task))
    → AreLists system jobs (lists_of lists)
are_lists system jobs lists answers many all = record { many = length-map lists (λ (v : Vec Entry Global). v.items) ∙ many; each = λ task known. (all task known).is }

pub items_here : (answers : List (Vec Answer Global)) (k : ℕ) (v : Vec Answer Global) → k < length answers → v ≡ get_or answers k v → v.items ≡ answers_at (items_of answers) k
items_here answers k v inside is = ap (λ (x : Vec Answer Global). x.items) is ∙ items_at answers k v inside
