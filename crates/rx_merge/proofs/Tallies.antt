-- The counts of the entries of lists, and of those that are left.
use Rattle.std.proofs.Common.{ℕ, zero, suc, ◌≡◌, ◌+◌, ◌-◌, ◌<◌, ◌≤◌, ◌⊎◌, subst, Bool, true, false, not, cond, ◌&&◌, List, [], ◌∷◌, length, take, drop, set, get_or, refl, sym, ap, ◌∙◌, inl, inr, arith}
use Rattle.std.specs.Prelude.{◌==◌, count_by, Some, Vec}
use Rattle.std.specs.declared.alloc.Global.{Global}
use Rattle.std.specs.List.{AllByRecursion, list_all}
use Rattle.std.proofs.lemmas.Bool.{and_parts, both_ways, cases_Bool, cases_lt, cases_eq, cases_order, eqb-true, eq-eqb, ne_eqb}
use Rattle.std.proofs.lemmas.List.{get_or-map, get_or-set_same, get_or-set_other, length-map, length-set}
use Rattle.std.proofs.lemmas.List.Sums.{sum_by-cons, sum_by_more, sum_by-drop_more}
use Rattle.std.proofs.lemmas.Option.{slice_get_within, get_or_from_slice_get}
use Rattle.rx_seq.specs.declared.kinds.Part.{Part}
use Rattle.rx_seq.specs.declared.calls.Call.TheVariants.{Get}
use Rattle.rx_seq.specs.declared.replies.Reply.TheVariants.{Done}
use Rattle.rx_seq.specs.declared.entries.Entry.{Entry}
use Rattle.rx_seq.specs.History.{is_loud, tag_of, calls_of}
use Rattle.rx_seq.specs.Legal.{IsLegal, entries_of}
use Rattle.rx_merge.specs.Merged.{lists_of, list_at, next_of, left_of, is_on, is_quiet_at, none_waits, AreOf}
use Rattle.rx_merge.specs.MergeState.{IsKnown, AreKnown, AreLow, AreCounts, AreStarts, sum_below, count_left, count_waiting, is_loud_on, louds_in, start_at}
use Rattle.rx_merge.proofs.Filters.{entries_of_filter, each_of, each_reverse, tag_of_count}
use Rattle.rx_merge.proofs.Steps.{loud_none}
use Rattle.rx_merge.proofs.Whole.{counted_all}

-- the entry that a read gives where there is none
abbrev pub no_entry : Entry
no_entry = record { caller = 0; index = 0; object = 0; call = Get; reply = Done 0; tag = 0 }

-- a list that was read, and an entry of it
pub list_read : (lists : List (Vec Entry Global)) (caller : ℕ) (list : Vec Entry Global) → caller < length lists → list ≡ get_or lists caller list → list_at (lists_of lists) caller ≡ list.items
list_read lists caller list h is = get_or-map (λ (l : Vec Entry Global). l.items) lists caller list [] h ∙ ap (λ (l : Vec Entry Global). l.items) (sym is)

pub length_lists : (lists : List (Vec Entry Global)) → length (lists_of lists) ≡ length lists
length_lists lists = length-map lists (λ (l : Vec Entry Global). l.items)

all_at : (P : Entry → Type 0) (es : List Entry) (k : ℕ) (d : Entry) → AllByRecursion P es → k < length es → P (get_or es k d)
all_at P [] k d all h = absurd (omega arith)
all_at P (e ∷ es) zero d all h = all.0
all_at P (e ∷ es) (suc k) d all h = all_at P es k d all.1 (omega arith)

pub entry_read : (P : Entry → Type 0) (lists : List (Vec Entry Global)) (caller : ℕ) (list : Vec Entry Global) (items : List Entry) (place : ℕ) (d : Entry)
    → ((c : ℕ) → c < length (lists_of lists) → AllByRecursion P (list_at (lists_of lists) c)) → caller < length lists → list ≡ get_or lists caller list → items ≡ list.items → place < length items → P (get_or items place d)
entry_read P lists caller list items place d each h is value within =
    let read : list_at (lists_of lists) caller ≡ items = list_read lists caller list h is ∙ sym value in
    all_at P items place d (subst (AllByRecursion P) read (each caller (omega (arith, length_lists lists)))) within

pub list_known : (objects many : ℕ) (lists : List (Vec Entry Global)) (caller : ℕ) (list : Vec Entry Global) (items : List Entry) → AreKnown objects (lists_of lists) → caller < length lists → list ≡ get_or lists caller list → items ≡ list.items → many ≡ objects
    → AllByRecursion (IsKnown many) items
list_known objects many lists caller list items known h is value same =
    let read : list_at (lists_of lists) caller ≡ items = list_read lists caller list h is ∙ sym value in
    subst (λ n. AllByRecursion (IsKnown n) items) (sym same) (subst (AllByRecursion (IsKnown objects)) read (known caller (omega (arith, length_lists lists))))

-- what is true of each entry of a history is so of each entry of the lists
each_list : (P : Entry → Type 0) (parts : List Part) (objects : ℕ) (lists : List (List Entry)) (history : List Entry) → AreOf parts objects lists history → AllByRecursion P history
    → (caller : ℕ) → caller < length lists → AllByRecursion P (list_at lists caller)
each_list P parts objects lists history are all caller h =
    subst (AllByRecursion P) (sym (are.own caller h)) (each_reverse P (entries_of caller history) (subst (AllByRecursion P) (sym (entries_of_filter caller history)) (each_of P caller history all)))

pub are_known : (parts : List Part) (objects : ℕ) (lists : List (List Entry)) (history : List Entry) → AreOf parts objects lists history → AreKnown objects lists
are_known parts objects lists history are = each_list (IsKnown objects) parts objects lists history are are.known

-- no tag of a legal history is above the number of loud entries on its object
low_tags : (parts : List Part) (bound : ℕ → ℕ) (es : List Entry) → IsLegal parts 0 es → ((object : ℕ) → tag_of object es ≤ bound object) → AllByRecursion (λ e. e.tag ≤ bound e.object) es
low_tags parts bound [] legal below = tt
low_tags parts bound (e ∷ es) legal below = (
  (let own = below e.object in omega (arith, legal.0, own)),
  low_tags parts bound es legal.2 (λ object. let own = below object in omega (arith, own)),
)

pub louds_are : (parts : List Part) (objects : ℕ) (lists : List (List Entry)) (history : List Entry) → AreOf parts objects lists history → (object : ℕ) → louds_in lists object ≡ tag_of object history
louds_are parts objects lists history are object = counted_all (is_loud_on object) parts objects lists history are ∙ sym (tag_of_count object history)

pub are_low : (parts : List Part) (objects : ℕ) (lists : List (List Entry)) (history : List Entry) → AreOf parts objects lists history → AreLow lists
are_low parts objects lists history are =
    each_list (λ e. e.tag ≤ louds_in lists e.object) parts objects lists history are
    (low_tags parts (louds_in lists) history are.legal (λ object. omega (arith, louds_are parts objects lists history are object)))

-- sums of two functions that are equal, or equal but at one number
pub sum_same : (f g : ℕ → ℕ) (n : ℕ) → ((k : ℕ) → k < n → f k ≡ g k) → sum_below f n ≡ sum_below g n
sum_same f g zero same = refl
sum_same f g (suc n) same = omega (arith, sum_same f g n (λ k h. same k (omega arith)), same n (omega arith))

sum_more : (f g : ℕ → ℕ) (at more : ℕ) → ((k : ℕ) → (k ≡ at → ⊥) → f k ≡ g k) → f at ≡ g at + more → (n : ℕ) → at < n → sum_below f n ≡ sum_below g n + more
sum_more f g at more others here zero h = absurd (omega arith)
sum_more f g at more others here (suc n) h = elim (cases_lt at n) [
  | inl below ↦ omega (arith, sum_more f g at more others here n below, others n (λ same. omega (arith, same, below)))
  | inr above ↦
      let last : n ≡ at = omega arith in
      let own : f n ≡ g n + more = subst (λ k. f k ≡ g k + more) (sym last) here in
      omega (arith, own, sum_same f g n (λ k less. others k (λ same. omega (arith, same, less, last))))
]

pub sum_next : (f : ℕ → ℕ) (n : ℕ) → sum_below f (n + 1) ≡ sum_below f n + f n
sum_next f n = let next : n + 1 ≡ suc n = omega arith in ap (sum_below f) next

-- an entry that is taken was left before
pub left_more : (passes : Entry → Bool) (lists : List (List Entry)) (taken : List Entry) (e : Entry) → e.caller < length lists → next_of lists taken e.caller ≡ Some e
    → count_left passes lists taken ≡ count_left passes lists (e ∷ taken) + cond {A = ℕ} (passes e) 1 0
left_more passes lists taken e h next =
    let list : List Entry = list_at lists e.caller in
    let place : ℕ = calls_of e.caller taken in
    let within : place < length list = slice_get_within list place e next in
    let at : get_or list place e ≡ e = get_or_from_slice_get list place e e next in
    let more : calls_of e.caller (e ∷ taken) ≡ place + 1 = rw (eq-eqb e.caller e.caller refl) (omega arith) in
    let here : count_by passes (left_of lists taken e.caller) ≡ count_by passes (left_of lists (e ∷ taken) e.caller) + cond {A = ℕ} (passes e) 1 0 =
    omega (arith, sum_by-drop_more (λ x. cond {A = ℕ} (passes x) 1 0) list place e within, ap (λ x. cond {A = ℕ} (passes x) 1 0) at, ap (λ n. count_by passes (drop n list)) more) in
    let others : (k : ℕ) → (k ≡ e.caller → ⊥) → count_by passes (left_of lists taken k) ≡ count_by passes (left_of lists (e ∷ taken) k) = λ k other.
    let same : calls_of k (e ∷ taken) ≡ calls_of k taken = rw (ne_eqb k e.caller other) (omega arith) in
    ap (λ n. count_by passes (drop n (list_at lists k))) (sym same) in
    sum_more (λ k. count_by passes (left_of lists taken k)) (λ k. count_by passes (left_of lists (e ∷ taken) k)) e.caller (cond {A = ℕ} (passes e) 1 0) others here (length lists) h

-- whether none is left is whether their number is 0
count_none : (passes : Entry → Bool) (es : List Entry) → (count_by passes es == 0) ≡ list_all (λ e. not (passes e)) es
count_none passes [] = refl
count_none passes (e ∷ es) = elim (cases_Bool (passes e)) [
  | inl y ↦
      let some : (count_by passes (e ∷ es) ≡ 0) → ⊥ = λ zero. omega (arith, zero, sum_by-cons (λ x. cond {A = ℕ} (passes x) 1 0) e es, ap (λ b. cond {A = ℕ} b 1 0) y) in
      ne_eqb (count_by passes (e ∷ es)) 0 some ∙ (rw y refl)
  | inr y ↦
      let same : count_by passes (e ∷ es) ≡ count_by passes es = omega (arith, sum_by-cons (λ x. cond {A = ℕ} (passes x) 1 0) e es, ap (λ b. cond {A = ℕ} b 1 0) y) in
      ap (λ n. n == 0) same ∙ count_none passes es ∙ (rw y refl)
]

both_zero : (a b : ℕ) → (a + b == 0) ≡ ((a == 0) && (b == 0))
both_zero a b = elim (cases_eq a 0) [
  | inl y ↦ rw (eq-eqb a 0 y) (ap (λ n. n == 0) (omega (arith, y)))
  | inr y ↦ rw (ne_eqb a 0 y) (ne_eqb (a + b) 0 (λ zero. y (omega (arith, zero))))
]

waits_to : (lists : List (List Entry)) (taken : List Entry) (object tag n : ℕ) → (sum_below (λ caller. count_by (is_quiet_at object tag) (left_of lists taken caller)) n == 0) ≡ none_waits lists taken object tag n
waits_to lists taken object tag zero = refl
waits_to lists taken object tag (suc n) =
    both_zero (sum_below (λ caller. count_by (is_quiet_at object tag) (left_of lists taken caller)) n) (count_by (is_quiet_at object tag) (left_of lists taken n))
    ∙ (rw (waits_to lists taken object tag n, count_none (is_quiet_at object tag) (left_of lists taken n)) refl)

pub none_waiting : (lists : List (List Entry)) (taken : List Entry) (object tag : ℕ) → (count_waiting lists taken object tag == 0) ≡ none_waits lists taken object tag (length lists)
none_waiting lists taken object tag = waits_to lists taken object tag (length lists)

-- the counts of an object end where those of the next one start
pub start_after : (lists : List (List Entry)) (object next : ℕ) → object < next → start_at lists object + louds_in lists object + 1 ≤ start_at lists next
start_after lists object zero h = absurd (omega arith)
start_after lists object (suc next) h = elim (cases_lt object next) [
  | inl below ↦ omega (arith, start_after lists object next below)
  | inr above ↦ let last : next ≡ object = omega arith in omega (arith, ap (start_at lists) last, ap (louds_in lists) last)
]

start_apart : (lists : List (List Entry)) (object tag other its : ℕ) → tag ≤ louds_in lists object → its ≤ louds_in lists other → start_at lists object + tag ≡ start_at lists other + its → (object ≡ other) × (tag ≡ its)
start_apart lists object tag other its low its_low same = elim (cases_order object other) [
  | inl one ↦ (one, omega (arith, same, ap (start_at lists) one))
  | inr two ↦ elim two [
    | inl before ↦ absurd (omega (arith, start_after lists object other before))
    | inr after ↦ absurd (omega (arith, start_after lists other object after))
  ]
]

-- counts of known objects, with an entry more or less
module _ (lists : List (List Entry)) (objects : ℕ) (e : Entry) (known : e.object < objects) (low : e.tag ≤ louds_in lists e.object) where
  abbrev place : ℕ
  place = start_at lists e.object + e.tag

  pub place_within : place < start_at lists objects
  place_within = omega (arith, start_after lists e.object objects known)

  at_place : is_loud e ≡ false → (object tag : ℕ) → tag ≤ louds_in lists object
      → ((is_quiet_at object tag e ≡ true) × (start_at lists object + tag ≡ place)) ⊎ ((is_quiet_at object tag e ≡ false) × (start_at lists object + tag ≡ place → ⊥))
  at_place quiet object tag few = elim (cases_Bool (is_quiet_at object tag e)) [
    | inl y ↦
        let both = and_parts (is_on object e && not (is_loud e)) (e.tag == tag) y in
        let on = and_parts (is_on object e) (not (is_loud e)) both.0 in
        inl (y, omega (arith, ap (start_at lists) (eqb-true object e.object on.0), eqb-true e.tag tag both.1))
    | inr n ↦ inr (
      n,
      λ same.
          let apart = start_apart lists object tag e.object e.tag few low same in
          let yes : is_quiet_at object tag e ≡ true = rw (eq-eqb object e.object apart.0, quiet, eq-eqb e.tag tag (sym apart.1)) refl in
          both_ways (is_quiet_at object tag e) n yes,
    )
  ]

  pub counts_up : (count : ℕ → ℕ → ℕ) (counts : List ℕ) → is_loud e ≡ false → AreCounts lists objects count counts
      → AreCounts lists objects (λ object tag. count object tag + cond {A = ℕ} (is_quiet_at object tag e) 1 0) (set counts place (get_or counts place 0 + 1))
  counts_up count counts quiet are = record {
    many = length-set counts place (get_or counts place 0 + 1) ∙ are.many;
    at = λ object tag h few. elim (at_place quiet object tag few) [
      | inl here ↦
          let own : get_or (set counts place (get_or counts place 0 + 1)) (start_at lists object + tag) 0 ≡ get_or counts (start_at lists object + tag) 0 + 1 =
          rw here.1 (get_or-set_same counts place (get_or counts place 0 + 1) 0 (omega (arith, are.many, place_within))) in
          omega (arith, own, are.at object tag h few, ap (λ b. cond {A = ℕ} b 1 0) here.0)
      | inr there ↦ omega (arith, get_or-set_other counts place (start_at lists object + tag) (get_or counts place 0 + 1) 0 there.1, are.at object tag h few, ap (λ b. cond {A = ℕ} b 1 0) there.0)
    ];
  }

  pub counts_down : (count : ℕ → ℕ → ℕ) (counts : List ℕ) → is_loud e ≡ false → AreCounts lists objects (λ object tag. count object tag + cond {A = ℕ} (is_quiet_at object tag e) 1 0) counts
      → AreCounts lists objects count (set counts place (get_or counts place 0 - 1))
  counts_down count counts quiet are = record {
    many = length-set counts place (get_or counts place 0 - 1) ∙ are.many;
    at = λ object tag h few. elim (at_place quiet object tag few) [
      | inl here ↦
          let own : get_or (set counts place (get_or counts place 0 - 1)) (start_at lists object + tag) 0 ≡ get_or counts (start_at lists object + tag) 0 - 1 =
          rw here.1 (get_or-set_same counts place (get_or counts place 0 - 1) 0 (omega (arith, are.many, place_within))) in
          omega (arith, own, are.at object tag h few, ap (λ b. cond {A = ℕ} b 1 0) here.0)
      | inr there ↦ omega (arith, get_or-set_other counts place (start_at lists object + tag) (get_or counts place 0 - 1) 0 there.1, are.at object tag h few, ap (λ b. cond {A = ℕ} b 1 0) there.0)
    ];
  }

  -- one that is quiet is among them
  pub count_some : (count : ℕ → ℕ → ℕ) (counts : List ℕ) → is_loud e ≡ false → AreCounts lists objects (λ object tag. count object tag + cond {A = ℕ} (is_quiet_at object tag e) 1 0) counts → 1 ≤ get_or counts place 0
  count_some count counts quiet are =
      let yes : is_quiet_at e.object e.tag e ≡ true = rw (eq-eqb e.object e.object refl, quiet, eq-eqb e.tag e.tag refl) refl in
      omega (arith, are.at e.object e.tag known low, ap (λ b. cond {A = ℕ} b 1 0) yes)

-- counts by functions that are equal
pub counts_same : (lists : List (List Entry)) (objects : ℕ) (f g : ℕ → ℕ → ℕ) (counts : List ℕ) → ((object tag : ℕ) → f object tag ≡ g object tag) → AreCounts lists objects f counts → AreCounts lists objects g counts
counts_same lists objects f g counts same are = record { many = are.many; at = λ object tag h few. are.at object tag h few ∙ same object tag }

-- a loud entry counts nowhere
pub loud_nowhere : (object tag : ℕ) (e : Entry) → is_loud e ≡ true → cond {A = ℕ} (is_quiet_at object tag e) 1 0 ≡ 0
loud_nowhere object tag e loud = ap (λ b. cond {A = ℕ} b 1 0) (loud_none object tag e loud)

-- the place that is computed for an entry
pub place_read : (lists : List (List Entry)) (starts : List ℕ) (e : Entry) → AreStarts lists (length starts) starts → e.object < length starts → get_or starts e.object 0 + e.tag ≡ start_at lists e.object + e.tag
place_read lists starts e are known = ap (λ n. n + e.tag) (are.at e.object known)

-- an entry that was read, where starts and counts are at hand
module _ (lists : List (Vec Entry Global)) (caller : ℕ) (list : Vec Entry Global) (items : List Entry) (index : ℕ) (d : Entry) (starts counts : List ℕ)
    (known : AreKnown (length starts) (lists_of lists)) (low : AreLow (lists_of lists)) (h : caller < length lists) (is : list ≡ get_or lists caller list) (value : items ≡ list.items) (within : index < length items)
    (are : AreStarts (lists_of lists) (length starts) starts) (whole : length counts ≡ start_at (lists_of lists) (length starts)) where
  abbrev e : Entry
  e = get_or items index d

  pub read_known : e.object < length starts
  read_known = entry_read (IsKnown (length starts)) lists caller list items index d known h is value within

  read_low : e.tag ≤ louds_in (lists_of lists) e.object
  read_low = entry_read (λ x. x.tag ≤ louds_in (lists_of lists) x.object) lists caller list items index d low h is value within

  pub read_place : get_or starts e.object 0 + e.tag < length counts
  read_place = omega (arith, whole, place_read (lists_of lists) starts e are read_known, place_within (lists_of lists) (length starts) e read_known read_low)

  take_more : (passes : Entry → Bool) → count_by passes (take (index + 1) (list_at (lists_of lists) caller)) ≡ count_by passes (take index (list_at (lists_of lists) caller)) + cond {A = ℕ} (passes e) 1 0
  take_more passes =
      let read : list_at (lists_of lists) caller ≡ items = list_read lists caller list h is ∙ sym value in
      rw read (sum_by_more (λ x. cond {A = ℕ} (passes x) 1 0) items index d within)

  more : (count : ℕ → ℕ → ℕ) (object tag : ℕ) → (count object tag + count_by (is_quiet_at object tag) (take index (list_at (lists_of lists) caller))) + cond {A = ℕ} (is_quiet_at object tag e) 1 0
      ≡ count object tag + count_by (is_quiet_at object tag) (take (index + 1) (list_at (lists_of lists) caller))
  more count object tag = omega (arith, take_more (is_quiet_at object tag))

  pub read_quiet : (count : ℕ → ℕ → ℕ) → is_loud e ≡ false → AreCounts (lists_of lists) (length starts) (λ object tag. count object tag + count_by (is_quiet_at object tag) (take index (list_at (lists_of lists) caller))) counts
      → AreCounts (lists_of lists) (length starts) (λ object tag. count object tag + count_by (is_quiet_at object tag) (take (index + 1) (list_at (lists_of lists) caller)))
      (set counts (get_or starts e.object 0 + e.tag) (get_or counts (get_or starts e.object 0 + e.tag) 0 + 1))
  read_quiet count quiet before =
      let up = counts_up (lists_of lists) (length starts) e read_known read_low (λ object tag. count object tag + count_by (is_quiet_at object tag) (take index (list_at (lists_of lists) caller))) counts quiet before in
      rw (place_read (lists_of lists) starts e are read_known) (counts_same (lists_of lists) (length starts) _ _ _ (more count) up)

  pub read_loud : (count : ℕ → ℕ → ℕ) → is_loud e ≡ true → AreCounts (lists_of lists) (length starts) (λ object tag. count object tag + count_by (is_quiet_at object tag) (take index (list_at (lists_of lists) caller))) counts
      → AreCounts (lists_of lists) (length starts) (λ object tag. count object tag + count_by (is_quiet_at object tag) (take (index + 1) (list_at (lists_of lists) caller))) counts
  read_loud count loud before =
      counts_same (lists_of lists) (length starts) _ _ _ (λ object tag. omega (arith, take_more (is_quiet_at object tag), loud_nowhere object tag e loud)) before
