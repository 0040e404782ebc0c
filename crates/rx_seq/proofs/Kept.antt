-- A call that fits makes a state of a state.
use Rattle.std.proofs.Common.{ℕ, suc, ◌≡◌, ◌≤◌, ◌<◌, ◌+◌, ◌-◌, true, not, eqb, ltb, leb, List, [], ◌∷◌, length, ◌&&◌, get_or, set, map, take, drop, refl, ◌∙◌, inl, inr, arith, Option, Some, None}
use Rattle.std.specs.List.{All, list_all}
use Rattle.std.proofs.lemmas.Bool.{ltb-false, leb-true, eqb-true, eqb-false, and_parts, cases_Bool, cases_lt}
use Rattle.std.proofs.lemmas.List.{length_push, length-set, length-replicate, get_or_past}
use Rattle.std.proofs.lemmas.List.Elements.{All-nil, All-replicate, All-from_get_or, All-get_or, All-head, All-tail, All-push, All-set, All-filter}
use Rattle.std.proofs.lemmas.List.Kept.{AllPairs-filter}
use Rattle.std.proofs.lemmas.List.Filters.{length-filter_both}
use Rattle.rx_seq.specs.declared.kinds.Kind.{Kind}
use Rattle.rx_seq.specs.declared.kinds.Kind.TheVariants.{Cell, Queue, Registers, List as Ordered}
use Rattle.rx_seq.specs.declared.kinds.Part.{Part}
use Rattle.rx_seq.specs.declared.calls.Row.{Row}
use Rattle.rx_seq.specs.declared.calls.Call.{Call}
use Rattle.rx_seq.specs.declared.calls.Call.TheVariants.{Get, Set, Add, Swap, Put, Take, Insert, Remove, Has, Read, Shift, Multi}
use Rattle.rx_seq.specs.declared.entries.Entry.{Entry}
use Rattle.rx_seq.specs.Table.{are_rows, is_row, have_repeat, register_of, is_blank, most_cell, most_value, IsCap, IsPart, start_by, fits_cell, fits_queue, fits_list, fits_registers, fits_by, fits_part, has_number, with_rows, transaction, shifted, taken, first_difference, effect_by, effect}
use Rattle.rx_seq.specs.History.{part_at, replay}
use Rattle.rx_seq.specs.States.{IsValue, IsCell, IsQueue, IsOrdered, IsRegisters, IsStateBy, IsState, IsFitting}
use Rattle.rx_seq.proofs.Ordered.{All-with_number, length-with_number, rises-with_number}

-- a cell
pub one_number : (v : ℕ) → v ≤ most_cell → IsCell (v ∷ [])
one_number v h = record { one = refl; value = h }

pub cell_kept : (cap : ℕ) (state : List ℕ) (call : Call) → IsCell state → fits_cell call ≡ true → IsCell (effect_by cap state call).state
cell_kept cap state Get is fits = is
cell_kept cap state (Set v) is fits = one_number v (leb-true v most_cell fits)
cell_kept cap state (Add v) is fits = elim (cases_Bool (ltb most_cell (get_or state 0 0 + v))) [
  | inl e ↦ rw e is
  | inr e ↦ rw e (one_number (get_or state 0 0 + v) (ltb-false most_cell (get_or state 0 0 + v) e))
]
cell_kept cap state (Swap old new) is fits = elim (cases_Bool (eqb (get_or state 0 0) old)) [
  | inl e ↦ rw e (one_number new (leb-true new most_cell (and_parts (leb old most_cell) (leb new most_cell) fits).1))
  | inr e ↦ rw e is
]
cell_kept cap state (Put v) is fits = cc
cell_kept cap state Take is fits = cc
cell_kept cap state (Insert k) is fits = cc
cell_kept cap state (Remove k) is fits = cc
cell_kept cap state (Has k) is fits = cc
cell_kept cap state (Read i) is fits = cc
cell_kept cap state (Shift from to n) is fits = cc
cell_kept cap state (Multi count rows) is fits = cc

-- a queue
pub put_kept : (cap : ℕ) (state : List ℕ) (v : ℕ) → IsQueue cap state → IsValue v → IsQueue cap (effect_by cap state (Put v)).state
put_kept cap state v is value = elim (cases_Bool (eqb (length state) cap)) [
  | inl e ↦ rw e is
  | inr e ↦ let room : length state ≤ cap = is.room in let not_full = eqb-false (length state) cap e in
      rw e (record { room = omega (arith, length_push state v); values = All-push IsValue state v is.values value })
]

pub take_kept : (cap : ℕ) (state : List ℕ) → IsQueue cap state → IsQueue cap (taken state).state
take_kept cap [] is = is
take_kept cap (n ∷ ns) is = let room : suc (length ns) ≤ cap = is.room in record { room = omega arith; values = All-tail IsValue n ns is.values }

pub queue_kept : (cap : ℕ) (state : List ℕ) (call : Call) → IsQueue cap state → fits_queue call ≡ true → IsQueue cap (effect_by cap state call).state
queue_kept cap state Get is fits = cc
queue_kept cap state (Set v) is fits = cc
queue_kept cap state (Add v) is fits = cc
queue_kept cap state (Swap old new) is fits = cc
queue_kept cap state (Put v) is fits = put_kept cap state v is (leb-true v most_value fits)
queue_kept cap state Take is fits = take_kept cap state is
queue_kept cap state (Insert k) is fits = cc
queue_kept cap state (Remove k) is fits = cc
queue_kept cap state (Has k) is fits = cc
queue_kept cap state (Read i) is fits = cc
queue_kept cap state (Shift from to n) is fits = cc
queue_kept cap state (Multi count rows) is fits = cc

-- an ordered list
pub insert_kept : (cap : ℕ) (state : List ℕ) (k : ℕ) → IsOrdered cap state → IsValue k → IsOrdered cap (effect_by cap state (Insert k)).state
insert_kept cap state k is value = elim (cases_Bool (has_number k state)) [
  | inl e ↦ rw e is
  | inr e ↦ rw e (elim (cases_Bool (eqb (length state) cap)) [
    | inl full ↦ rw full is
    | inr not_full ↦ let room : length state ≤ cap = is.room in let apart = eqb-false (length state) cap not_full in
        rw not_full (record {
          room = omega (arith, length-with_number k state);
          values = All-with_number IsValue k state value is.values;
          rising = rises-with_number k state is.rising e;
        })
  ])
]

pub remove_kept : (cap : ℕ) (state : List ℕ) (k : ℕ) → IsOrdered cap state → IsOrdered cap (effect_by cap state (Remove k)).state
remove_kept cap state k is = elim (cases_Bool (has_number k state)) [
  | inl e ↦ let room : length state ≤ cap = is.room in
      rw e (record {
        room = omega (arith, length-filter_both (λ n. not (eqb n k)) (λ n. not (not (eqb n k))) (λ _. refl) state);
        values = All-filter (λ n. not (eqb n k)) IsValue state is.values;
        rising = AllPairs-filter (λ a b. a < b) (λ n. not (eqb n k)) state is.rising;
      })
  | inr e ↦ rw e is
]

pub list_kept : (cap : ℕ) (state : List ℕ) (call : Call) → IsOrdered cap state → fits_list call ≡ true → IsOrdered cap (effect_by cap state call).state
list_kept cap state Get is fits = cc
list_kept cap state (Set v) is fits = cc
list_kept cap state (Add v) is fits = cc
list_kept cap state (Swap old new) is fits = cc
list_kept cap state (Put v) is fits = cc
list_kept cap state Take is fits = cc
list_kept cap state (Insert k) is fits = insert_kept cap state k is (leb-true k most_value fits)
list_kept cap state (Remove k) is fits = remove_kept cap state k is
list_kept cap state (Has k) is fits = is
list_kept cap state (Read i) is fits = cc
list_kept cap state (Shift from to n) is fits = cc
list_kept cap state (Multi count rows) is fits = cc

-- registers
pub value_at : (state : List ℕ) (i : ℕ) → All IsValue state → get_or state i 0 ≤ most_value
value_at state i all = elim (cases_lt i (length state)) [
  | inl h ↦ All-get_or IsValue state i 0 h all
  | inr h ↦ rw (get_or_past state i 0 h) (omega arith)
]

pub set_kept : (cap : ℕ) (state : List ℕ) (i v : ℕ) → IsRegisters cap state → IsValue v → IsRegisters cap (set state i v)
set_kept cap state i v is value = record { count = length-set state i v ∙ is.count; values = All-set IsValue state i v value is.values }

pub shift_kept : (cap : ℕ) (state : List ℕ) (from to n : ℕ) → IsRegisters cap state → IsRegisters cap (shifted state from to n).state
shift_kept cap state from to n is =
    let have = get_or state from 0 in let sum = get_or state to 0 + n in
    elim (cases_Bool (ltb have n)) [
      | inl e ↦ rw e is
      | inr e ↦ rw e (elim (cases_Bool (ltb most_value sum)) [
        | inl over ↦ rw over is
        | inr fits ↦ let most = value_at state from is.values in
            rw fits (set_kept cap (set state from (have - n)) to sum (set_kept cap state from (have - n) is (omega arith)) (ltb-false most_value sum fits))
      ])
    ]

new_kept : (cap : ℕ) (row : Row) → is_row cap row ≡ true → IsValue row.new
new_kept cap row h = leb-true row.new most_value (and_parts (ltb row.i cap && leb row.old most_value) (leb row.new most_value) h).1

pub rows_kept : (cap : ℕ) (state : List ℕ) (rows : List Row) → IsRegisters cap state → list_all (is_row cap) rows ≡ true → IsRegisters cap (with_rows state rows)
rows_kept cap state [] is all = is
rows_kept cap state (row ∷ rows) is all =
    rows_kept cap (set state row.i row.new) rows (set_kept cap state row.i row.new is (new_kept cap row (and_parts _ _ all).0)) (and_parts _ _ all).1

pub transaction_kept : (cap : ℕ) (state : List ℕ) (count : ℕ) (rows : List Row) (found : Option ℕ) → IsRegisters cap state → list_all (is_row cap) rows ≡ true → IsRegisters cap (transaction state count rows found).state
transaction_kept cap state count rows (Some v) is all = is
transaction_kept cap state count rows None is all = rows_kept cap state rows is all

-- the rows of a transaction that fits
named_rows : (cap count : ℕ) (rows : List Row) → are_rows cap count rows ≡ true → list_all (is_row cap) (take count rows) ≡ true
named_rows cap count rows fits =
    let limits = leb 1 count && leb count 4 in let named = list_all (is_row cap) (take count rows) in
    let apart = not (have_repeat (map register_of (take count rows))) in
    (and_parts limits named (and_parts (limits && named) apart (and_parts (limits && named && apart) (list_all is_blank (drop count rows)) fits).0).0).1

pub registers_kept : (cap : ℕ) (state : List ℕ) (call : Call) → IsRegisters cap state → fits_registers cap call ≡ true → IsRegisters cap (effect_by cap state call).state
registers_kept cap state Get is fits = cc
registers_kept cap state (Set v) is fits = cc
registers_kept cap state (Add v) is fits = cc
registers_kept cap state (Swap old new) is fits = cc
registers_kept cap state (Put v) is fits = cc
registers_kept cap state Take is fits = cc
registers_kept cap state (Insert k) is fits = cc
registers_kept cap state (Remove k) is fits = cc
registers_kept cap state (Has k) is fits = cc
registers_kept cap state (Read i) is fits = is
registers_kept cap state (Shift from to n) is fits = shift_kept cap state from to n is
registers_kept cap state (Multi count rows) is fits =
    transaction_kept cap state count (take count rows) (first_difference state (take count rows)) is (named_rows cap count rows fits)

-- every kind
pub kept_by : (kind : Kind) (cap : ℕ) (state : List ℕ) (call : Call) → IsStateBy kind cap state → fits_by kind cap call ≡ true → IsStateBy kind cap (effect_by cap state call).state
kept_by Cell cap state call is fits = cell_kept cap state call is fits
kept_by Queue cap state call is fits = queue_kept cap state call is fits
kept_by Ordered cap state call is fits = list_kept cap state call is fits
kept_by Registers cap state call is fits = registers_kept cap state call is fits

pub state_kept : (part : Part) (state : List ℕ) (call : Call) → IsState part state → fits_part part call ≡ true → IsState part (effect part state call).state
state_kept part state call is fits = kept_by part.kind part.cap state call is fits

pub start_kept : (kind : Kind) (cap : ℕ) → IsCap kind cap → IsStateBy kind cap (start_by kind cap)
start_kept Cell cap is = one_number 0 (omega arith)
start_kept Queue cap is = record { room = omega arith; values = All-nil IsValue }
start_kept Ordered cap is = record { room = omega arith; values = All-nil IsValue; rising = λ i j d h l. absurd (omega arith) }
start_kept Registers cap is = record { count = length-replicate cap 0; values = All-replicate IsValue cap 0 (omega arith) }

-- a history in which each call fits
pub replay_kept : (parts : List Part) (object : ℕ) (history : List Entry) → IsPart (part_at parts object) → All (IsFitting parts) history → IsState (part_at parts object) (replay parts object history)
replay_kept parts object [] is all = start_kept (part_at parts object).kind (part_at parts object).cap is
replay_kept parts object (entry ∷ before) is all =
    let so_far = replay_kept parts object before is (All-tail (IsFitting parts) entry before all) in
    let fits = All-head (IsFitting parts) entry before all in
    elim (cases_Bool (eqb object entry.object)) [
      | inl e ↦ let same = eqb-true object entry.object e in
          rw e (state_kept (part_at parts object) (replay parts object before) entry.call so_far (rw same fits.fits))
      | inr e ↦ rw e so_far
    ]

-- how much a state holds
pub bounded_by : (kind : Kind) (cap : ℕ) (state : List ℕ) → IsCap kind cap → IsStateBy kind cap state → (length state ≤ cap) × All IsValue state
bounded_by Cell cap state limits is = (
  let one : length state ≡ 1 = is.one in omega arith,
  All-from_get_or IsValue state 0 (λ i h. let one : length state ≡ 1 = is.one in let first : i ≡ 0 = omega arith in rw first (let value : get_or state 0 0 ≤ most_cell = is.value in omega arith)),
)
bounded_by Queue cap state limits is = (is.room, is.values)
bounded_by Ordered cap state limits is = (is.room, is.values)
bounded_by Registers cap state limits is = (let count : length state ≡ cap = is.count in omega arith, is.values)

pub state_bounded : (part : Part) (state : List ℕ) → IsPart part → IsState part state → (length state ≤ part.cap) × All IsValue state
state_bounded part state limits is = bounded_by part.kind part.cap state limits is

-- the rows of a call that fits name registers of the state
pub rows_fit : (kind : Kind) (cap : ℕ) (state : List ℕ) (count : ℕ) (rows : List Row) → IsStateBy kind cap state → fits_by kind cap (Multi count rows) ≡ true → are_rows (length state) count rows ≡ true
rows_fit Cell cap state count rows is fits = cc
rows_fit Queue cap state count rows is fits = cc
rows_fit Ordered cap state count rows is fits = cc
rows_fit Registers cap state count rows is fits = rw is.count fits
