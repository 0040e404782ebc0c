-- A quiet call leaves a state as it is, and what leaves it as it is is quiet or a set.
use Rattle.std.proofs.Common.{ℕ, ◌≡◌, ◌≢◌, ◌≤◌, ◌<◌, ◌+◌, ◌-◌, Bool, true, false, not, eqb, ltb, leb, List, [], ◌∷◌, length, ◌&&◌, ◌||◌, get_or, set, map, take, drop, refl, sym, ap, ◌∙◌, inl, inr, arith, Option, Some, None}
use Rattle.std.specs.List.{AllByRecursion, list_all, list_any}
use Rattle.std.proofs.lemmas.Bool.{not-true, eqb-true, eqb-false, eq-eqb, ltb-true, and_parts, or_parts, cases_Bool}
use Rattle.std.proofs.lemmas.List.{length_push, length-set, set-get_or, get_or-set_same, get_or-set_other}
use Rattle.std.proofs.lemmas.List.Filters.{length-filter_both}
use Rattle.rx_seq.specs.declared.kinds.Kind.{Kind}
use Rattle.rx_seq.specs.declared.kinds.Kind.TheVariants.{Cell, Queue, Registers, List as Ordered}
use Rattle.rx_seq.specs.declared.kinds.Part.{Part}
use Rattle.rx_seq.specs.declared.calls.Row.{Row}
use Rattle.rx_seq.specs.declared.calls.Call.{Call}
use Rattle.rx_seq.specs.declared.calls.Call.TheVariants.{Get, Set, Add, Swap, Put, Take, Insert, Remove, Has, Read, Shift, Multi}
use Rattle.rx_seq.specs.declared.replies.Reply.{Reply}
use Rattle.rx_seq.specs.declared.replies.Reply.TheVariants.{Over, Differs, Short}
use Rattle.rx_seq.specs.Table.{are_rows, is_row, have_repeat, register_of, is_blank, most_cell, most_value, fits_registers, fits_by, fits_part, has_number, without_number, with_rows, transaction, shifted, taken, first_difference, effect_by, effect}
use Rattle.rx_seq.specs.Quiet.{keeps_value, is_still, tells_change, is_quiet}
use Rattle.rx_seq.specs.States.{IsCell, IsStateBy, IsState}
use Rattle.rx_seq.proofs.Ordered.{length-with_number}

-- a reply that tells of no change makes any call quiet
told_quiet : (call : Call) (reply : Reply) → tells_change reply ≡ false → is_quiet call reply ≡ true
told_quiet call reply none = elim (cases_Bool (is_still call)) [
  | inl e ↦ rw e refl
  | inr e ↦ rw (e, none) refl
]

-- a call that is not still is quiet only with such a reply
loud_done : (still : Bool) → (still || false) ≡ true → still ≡ true
loud_done true h = refl
loud_done false h = h

-- the one number of a cell
one_of : (state : List ℕ) → length state ≡ 1 → state ≡ get_or state 0 0 ∷ []
one_of [] one = cc
one_of (n ∷ []) one = refl
one_of (n ∷ m ∷ state) one = absurd (omega (arith, one))

-- cells
add_stays : (cap : ℕ) (state : List ℕ) (v : ℕ) → IsCell state → is_quiet (Add v) (effect_by cap state (Add v)).reply ≡ true → (effect_by cap state (Add v)).state ≡ state
add_stays cap state v is = elim (cases_Bool (ltb most_cell (get_or state 0 0 + v))) [
  | inl e ↦ rw e (λ quiet. refl)
  | inr e ↦ rw e (λ quiet.
      let nothing : v ≡ 0 = eqb-true v 0 (loud_done (eqb v 0) quiet) in
      let sum : get_or state 0 0 + v ≡ get_or state 0 0 = omega arith in
      ap (λ (n : ℕ). n ∷ []) sum ∙ sym (one_of state is.one))
]

add_only : (cap : ℕ) (state : List ℕ) (v : ℕ) → (effect_by cap state (Add v)).state ≡ state → is_quiet (Add v) (effect_by cap state (Add v)).reply ≡ true
add_only cap state v = elim (cases_Bool (ltb most_cell (get_or state 0 0 + v))) [
  | inl e ↦ rw e (λ same. told_quiet (Add v) Over refl)
  | inr e ↦ rw e (λ same.
      let sum : get_or state 0 0 + v ≡ get_or state 0 0 = ap (λ (s : List ℕ). get_or s 0 0) same in
      rw (eq-eqb v 0 (omega arith)) refl)
]

swap_stays : (cap : ℕ) (state : List ℕ) (old new : ℕ) → IsCell state → is_quiet (Swap old new) (effect_by cap state (Swap old new)).reply ≡ true → (effect_by cap state (Swap old new)).state ≡ state
swap_stays cap state old new is = elim (cases_Bool (eqb (get_or state 0 0) old)) [
  | inl e ↦ rw e (λ quiet.
      let same : old ≡ new = eqb-true old new (loud_done (eqb old new) quiet) in
      let here : get_or state 0 0 ≡ old = eqb-true (get_or state 0 0) old e in
      ap (λ (n : ℕ). n ∷ []) (sym same ∙ sym here) ∙ sym (one_of state is.one))
  | inr e ↦ rw e (λ quiet. refl)
]

swap_only : (cap : ℕ) (state : List ℕ) (old new : ℕ) → (effect_by cap state (Swap old new)).state ≡ state → is_quiet (Swap old new) (effect_by cap state (Swap old new)).reply ≡ true
swap_only cap state old new = elim (cases_Bool (eqb (get_or state 0 0) old)) [
  | inl e ↦ rw e (λ same.
      let here : get_or state 0 0 ≡ old = eqb-true (get_or state 0 0) old e in
      let after : new ≡ get_or state 0 0 = ap (λ (s : List ℕ). get_or s 0 0) same in
      rw (eq-eqb old new (sym here ∙ sym after)) refl)
  | inr e ↦ rw e (λ same. told_quiet (Swap old new) (Differs (get_or state 0 0)) refl)
]

-- queues
put_stays : (cap : ℕ) (state : List ℕ) (v : ℕ) → is_quiet (Put v) (effect_by cap state (Put v)).reply ≡ true → (effect_by cap state (Put v)).state ≡ state
put_stays cap state v = elim (cases_Bool (eqb (length state) cap)) [
  | inl e ↦ rw e (λ quiet. refl)
  | inr e ↦ rw e (λ quiet. cc)
]

put_only : (cap : ℕ) (state : List ℕ) (v : ℕ) → (effect_by cap state (Put v)).state ≡ state → is_quiet (Put v) (effect_by cap state (Put v)).reply ≡ true
put_only cap state v = elim (cases_Bool (eqb (length state) cap)) [
  | inl e ↦ rw e (λ same. refl)
  | inr e ↦ rw e (λ same. let longer = ap (λ (s : List ℕ). length s) same in absurd (omega (arith, length_push state v)))
]

take_stays : (cap : ℕ) (state : List ℕ) → is_quiet Take (taken state).reply ≡ true → (taken state).state ≡ state
take_stays cap [] quiet = refl
take_stays cap (n ∷ ns) quiet = cc

take_only : (cap : ℕ) (state : List ℕ) → (taken state).state ≡ state → is_quiet Take (taken state).reply ≡ true
take_only cap [] same = refl
take_only cap (n ∷ ns) same = let shorter : length ns ≡ length ns + 1 = ap (λ (s : List ℕ). length s) same ∙ omega arith in absurd (omega arith)

-- ordered lists
insert_stays : (cap : ℕ) (state : List ℕ) (k : ℕ) → is_quiet (Insert k) (effect_by cap state (Insert k)).reply ≡ true → (effect_by cap state (Insert k)).state ≡ state
insert_stays cap state k = elim (cases_Bool (has_number k state)) [
  | inl e ↦ rw e (λ quiet. refl)
  | inr e ↦ rw e (elim (cases_Bool (eqb (length state) cap)) [
    | inl full ↦ rw full (λ quiet. refl)
    | inr room ↦ rw room (λ quiet. cc)
  ])
]

insert_only : (cap : ℕ) (state : List ℕ) (k : ℕ) → (effect_by cap state (Insert k)).state ≡ state → is_quiet (Insert k) (effect_by cap state (Insert k)).reply ≡ true
insert_only cap state k = elim (cases_Bool (has_number k state)) [
  | inl e ↦ rw e (λ same. refl)
  | inr e ↦ rw e (elim (cases_Bool (eqb (length state) cap)) [
    | inl full ↦ rw full (λ same. refl)
    | inr room ↦ rw room (λ same. let longer = ap (λ (s : List ℕ). length s) same in absurd (omega (arith, length-with_number k state)))
  ])
]

remove_stays : (cap : ℕ) (state : List ℕ) (k : ℕ) → is_quiet (Remove k) (effect_by cap state (Remove k)).reply ≡ true → (effect_by cap state (Remove k)).state ≡ state
remove_stays cap state k = elim (cases_Bool (has_number k state)) [
  | inl e ↦ rw e (λ quiet. cc)
  | inr e ↦ rw e (λ quiet. refl)
]

-- a number that is there is left out
few_left : (k : ℕ) (state : List ℕ) → length (without_number k state) ≤ length state
few_left k state = omega (arith, length-filter_both (λ n. not (eqb n k)) (λ n. not (not (eqb n k))) (λ _. refl) state)

fewer_left : (k : ℕ) (state : List ℕ) → has_number k state ≡ true → length (without_number k state) < length state
fewer_left k [] there = cc
fewer_left k (n ∷ ns) there = elim (cases_Bool (eqb n k)) [
  | inl e ↦ rw e (omega (arith, few_left k ns))
  | inr e ↦ rw e (omega (arith, fewer_left k ns (rw e at there)))
]

remove_only : (cap : ℕ) (state : List ℕ) (k : ℕ) → (effect_by cap state (Remove k)).state ≡ state → is_quiet (Remove k) (effect_by cap state (Remove k)).reply ≡ true
remove_only cap state k = elim (cases_Bool (has_number k state)) [
  | inl e ↦ rw e (λ same. let shorter = ap (λ (s : List ℕ). length s) same in absurd (omega (arith, fewer_left k state e)))
  | inr e ↦ rw e (λ same. refl)
]

-- registers
shift_stays : (cap : ℕ) (state : List ℕ) (from to n : ℕ) → is_quiet (Shift from to n) (shifted state from to n).reply ≡ true → (shifted state from to n).state ≡ state
shift_stays cap state from to n = elim (cases_Bool (ltb (get_or state from 0) n)) [
  | inl e ↦ rw e (λ quiet. refl)
  | inr e ↦ rw e (elim (cases_Bool (ltb most_value (get_or state to 0 + n))) [
    | inl over ↦ rw over (λ quiet. refl)
    | inr fits ↦ rw fits (λ quiet.
        let nothing : n ≡ 0 = eqb-true n 0 (loud_done (eqb n 0) quiet) in
        let left : get_or state from 0 - n ≡ get_or state from 0 = omega arith in
        let sum : get_or state to 0 + n ≡ get_or state to 0 = omega arith in
        ap (λ (v : ℕ). set (set state from v) to (get_or state to 0 + n)) left
        ∙ ap (λ (s : List ℕ). set s to (get_or state to 0 + n)) (set-get_or state from 0)
        ∙ ap (set state to) sum
        ∙ set-get_or state to 0)
  ])
]

shift_only : (cap : ℕ) (state : List ℕ) (from to n : ℕ) → to < length state → (shifted state from to n).state ≡ state → is_quiet (Shift from to n) (shifted state from to n).reply ≡ true
shift_only cap state from to n there = elim (cases_Bool (ltb (get_or state from 0) n)) [
  | inl e ↦ rw e (λ same. told_quiet (Shift from to n) (Short (get_or state from 0)) refl)
  | inr e ↦ rw e (elim (cases_Bool (ltb most_value (get_or state to 0 + n))) [
    | inl over ↦ rw over (λ same. told_quiet (Shift from to n) Over refl)
    | inr fits ↦ rw fits (λ same.
        let sum : get_or state to 0 + n ≡ get_or state to 0 =
        sym (get_or-set_same (set state from (get_or state from 0 - n)) to (get_or state to 0 + n) 0 (let many = length-set state from (get_or state from 0 - n) in omega arith))
        ∙ ap (λ (s : List ℕ). get_or s to 0) same in
        rw (eq-eqb n 0 (omega arith)) refl)
  ])
]

-- rows: where no register differs each has its row's old value
no_difference : (state : List ℕ) (row : Row) (rows : List Row) → first_difference state (row ∷ rows) ≡ None → (get_or state row.i 0 ≡ row.old) × (first_difference state rows ≡ None)
no_difference state row rows none = elim (cases_Bool (eqb (get_or state row.i 0) row.old)) [
  | inl e ↦ (eqb-true (get_or state row.i 0) row.old e, rw e at none)
  | inr e ↦ let some : Some (get_or state row.i 0) ≡ None = rw e at none in cc
]

rows_stay : (state : List ℕ) (rows : List Row) → first_difference state rows ≡ None → list_all keeps_value rows ≡ true → with_rows state rows ≡ state
rows_stay state [] none keep = refl
rows_stay state (row ∷ rows) none keep =
    let old = no_difference state row rows none in
    let both = and_parts (keeps_value row) (list_all keeps_value rows) keep in
    let same : row.old ≡ row.new = eqb-true row.old row.new both.0 in
    let here : set state row.i row.new ≡ state = ap (set state row.i) (sym same ∙ sym old.0) ∙ set-get_or state row.i 0 in
    rw here (rows_stay state rows old.1 both.1)

multi_stays : (state : List ℕ) (count : ℕ) (rows : List Row) (found : Option ℕ) → first_difference state (take count rows) ≡ found → is_quiet (Multi count rows) (transaction state count (take count rows) found).reply ≡ true → (transaction state count (take count rows) found).state ≡ state
multi_stays state count rows (Some v) is quiet = refl
multi_stays state count rows None is quiet = rows_stay state (take count rows) is (loud_done (list_all keeps_value (take count rows)) quiet)

-- a register that no later row names keeps its value
elsewhere : (state : List ℕ) (rows : List Row) (i : ℕ) → list_any (λ m. eqb m i) (map register_of rows) ≡ false → get_or (with_rows state rows) i 0 ≡ get_or state i 0
elsewhere state [] i none = refl
elsewhere state (row ∷ rows) i none =
    let apart = or_parts (eqb row.i i) (list_any (λ m. eqb m i) (map register_of rows)) none in
    elsewhere (set state row.i row.new) rows i apart.1
    ∙ get_or-set_other state row.i i row.new 0 (λ e. eqb-false row.i i apart.0 (sym e))

-- so each row's register has the new value after all of them
new_values : (state : List ℕ) (rows : List Row) → list_all (is_row (length state)) rows ≡ true → have_repeat (map register_of rows) ≡ false → AllByRecursion (λ row. get_or (with_rows state rows) row.i 0 ≡ row.new) rows
new_values state [] named apart = tt
new_values state (row ∷ rows) named apart =
    let once = or_parts (list_any (λ m. eqb m row.i) (map register_of rows)) (have_repeat (map register_of rows)) apart in
    let names = and_parts (is_row (length state) row) (list_all (is_row (length state)) rows) named in
    let there : row.i < length state = ltb-true row.i (length state) (and_parts (ltb row.i (length state)) (leb row.old most_value) (and_parts (ltb row.i (length state) && leb row.old most_value) (leb row.new most_value) names.0).0).0 in
    let later : list_all (is_row (length (set state row.i row.new))) rows ≡ true = rw (length-set state row.i row.new) names.1 in
    (elsewhere (set state row.i row.new) rows row.i once.0 ∙ get_or-set_same state row.i row.new 0 there, new_values (set state row.i row.new) rows later once.1)

old_values : (state : List ℕ) (rows : List Row) → first_difference state rows ≡ None → AllByRecursion (λ row. get_or state row.i 0 ≡ row.old) rows
old_values state [] none = tt
old_values state (row ∷ rows) none = let old = no_difference state row rows none in (old.0, old_values state rows old.1)

both_values : (last state : List ℕ) (rows : List Row) → last ≡ state → AllByRecursion (λ row. get_or last row.i 0 ≡ row.new) rows → AllByRecursion (λ row. get_or state row.i 0 ≡ row.old) rows → list_all keeps_value rows ≡ true
both_values last state [] same new old = refl
both_values last state (row ∷ rows) same new old =
    rw (eq-eqb row.old row.new (sym old.0 ∙ ap (λ (s : List ℕ). get_or s row.i 0) (sym same) ∙ new.0)) (both_values last state rows same new.1 old.1)

multi_only : (state : List ℕ) (count : ℕ) (rows : List Row) (found : Option ℕ) → are_rows (length state) count rows ≡ true → first_difference state (take count rows) ≡ found → (transaction state count (take count rows) found).state ≡ state → is_quiet (Multi count rows) (transaction state count (take count rows) found).reply ≡ true
multi_only state count rows (Some v) fits is same = told_quiet (Multi count rows) (Differs v) refl
multi_only state count rows None fits is same =
    let limits = leb 1 count && leb count 4 in let named = list_all (is_row (length state)) (take count rows) in
    let apart = not (have_repeat (map register_of (take count rows))) in
    let first = and_parts (limits && named) apart (and_parts (limits && named && apart) (list_all is_blank (drop count rows)) fits).0 in
    rw (both_values (with_rows state (take count rows)) state (take count rows) same
    (new_values state (take count rows) (and_parts limits named first.0).1 (not-true (have_repeat (map register_of (take count rows))) first.1))
    (old_values state (take count rows) is)) refl

-- each call of each kind
stays_by : (kind : Kind) (cap : ℕ) (state : List ℕ) (call : Call) → IsStateBy kind cap state → fits_by kind cap call ≡ true → is_quiet call (effect_by cap state call).reply ≡ true → (effect_by cap state call).state ≡ state
stays_by Cell cap state (Add v) is fits quiet = add_stays cap state v is quiet
stays_by Queue cap state (Add v) is fits quiet = cc
stays_by Ordered cap state (Add v) is fits quiet = cc
stays_by Registers cap state (Add v) is fits quiet = cc
stays_by Cell cap state (Swap old new) is fits quiet = swap_stays cap state old new is quiet
stays_by Queue cap state (Swap old new) is fits quiet = cc
stays_by Ordered cap state (Swap old new) is fits quiet = cc
stays_by Registers cap state (Swap old new) is fits quiet = cc
stays_by kind cap state Get is fits quiet = refl
stays_by kind cap state (Set v) is fits quiet = cc
stays_by kind cap state (Put v) is fits quiet = put_stays cap state v quiet
stays_by kind cap state Take is fits quiet = take_stays cap state quiet
stays_by kind cap state (Insert k) is fits quiet = insert_stays cap state k quiet
stays_by kind cap state (Remove k) is fits quiet = remove_stays cap state k quiet
stays_by kind cap state (Has k) is fits quiet = refl
stays_by kind cap state (Read i) is fits quiet = refl
stays_by kind cap state (Shift from to n) is fits quiet = shift_stays cap state from to n quiet
stays_by kind cap state (Multi count rows) is fits quiet = multi_stays state count rows (first_difference state (take count rows)) refl quiet

pub quiet_stays : (part : Part) (state : List ℕ) (call : Call) → IsState part state → fits_part part call ≡ true → is_quiet call (effect part state call).reply ≡ true → (effect part state call).state ≡ state
quiet_stays part state call is fits quiet = stays_by part.kind part.cap state call is fits quiet

-- registers that a shift names
shift_fits : (cap from to n : ℕ) → fits_registers cap (Shift from to n) ≡ true → to < cap
shift_fits cap from to n fits =
    let first = and_parts (ltb from cap && ltb to cap) (not (eqb from to)) (and_parts (ltb from cap && ltb to cap && not (eqb from to)) (leb n most_value) fits).0 in
    ltb-true to cap (and_parts (ltb from cap) (ltb to cap) first.0).1

only_by : (kind : Kind) (cap : ℕ) (state : List ℕ) (call : Call) → IsStateBy kind cap state → fits_by kind cap call ≡ true → (effect_by cap state call).state ≡ state → ((v : ℕ) → call ≢ Set v) → is_quiet call (effect_by cap state call).reply ≡ true
only_by Registers cap state (Shift from to n) is fits same no_set = shift_only cap state from to n (let there = shift_fits cap from to n fits in let many = is.count in omega arith) same
only_by Cell cap state (Shift from to n) is fits same no_set = cc
only_by Queue cap state (Shift from to n) is fits same no_set = cc
only_by Ordered cap state (Shift from to n) is fits same no_set = cc
only_by Registers cap state (Multi count rows) is fits same no_set = multi_only state count rows (first_difference state (take count rows)) (rw is.count fits) refl same
only_by Cell cap state (Multi count rows) is fits same no_set = cc
only_by Queue cap state (Multi count rows) is fits same no_set = cc
only_by Ordered cap state (Multi count rows) is fits same no_set = cc
only_by kind cap state Get is fits same no_set = refl
only_by kind cap state (Set v) is fits same no_set = absurd (no_set v refl)
only_by kind cap state (Add v) is fits same no_set = add_only cap state v same
only_by kind cap state (Swap old new) is fits same no_set = swap_only cap state old new same
only_by kind cap state (Put v) is fits same no_set = put_only cap state v same
only_by kind cap state Take is fits same no_set = take_only cap state same
only_by kind cap state (Insert k) is fits same no_set = insert_only cap state k same
only_by kind cap state (Remove k) is fits same no_set = remove_only cap state k same
only_by kind cap state (Has k) is fits same no_set = refl
only_by kind cap state (Read i) is fits same no_set = refl

pub unchanged_quiet : (part : Part) (state : List ℕ) (call : Call) → IsState part state → fits_part part call ≡ true → (effect part state call).state ≡ state → ((v : ℕ) → call ≢ Set v) → is_quiet call (effect part state call).reply ≡ true
unchanged_quiet part state call is fits same no_set = only_by part.kind part.cap state call is fits same no_set
