-- Where the operation of a place in a task's script stands: in which job, and at which item of the body.
use Rattle.std.proofs.Common.{ℕ, zero, suc, ◌≡◌, ◌≤◌, ◌<◌, ◌+◌, ◌-◌, ◌*◌, ◌/◌, ◌%◌, List, [], ◌∷◌, ◌++◌, length, take, slice_get, Some, ap, sym, ◌∙◌, refl, arith}
use Rattle.std.proofs.Math.Decide.{dec_lt}
use Rattle.std.proofs.Math.Nat.{max-eq_left}
use Rattle.std.proofs.lemmas.List.{length-append}
use Rattle.std.proofs.lemmas.Nat.{div-mul-add, mod-mul-add}
use Rattle.std.proofs.lemmas.Option.{none-some, same_Some, slice_get_within}
use Rattle.rx_seq.specs.declared.calls.Call.{Call}
use Rattle.rx_seq.specs.declared.entries.Entry.{Entry}
use Rattle.rx_set.specs.declared.items.Item.{Item}
use Rattle.rx_set.specs.declared.items.Item.TheVariants.{Work, Op}
use Rattle.rx_set.specs.Operations.{Asked, asked, asked_of, operations_of, repeated, script_of}
use Rattle.rx_set.specs.System.{System, task_at}
use Rattle.rx_report.specs.LaneLines.{entry_item, entry_job, item_after, operations}
use Rattle.rx_report.specs.Lines.{item_of}

-- places of a list that goes on with another
in_first : (xs ys : List Asked) (place : ℕ) → place < length xs → slice_get (xs ++ ys) place ≡ slice_get xs place
in_first [] ys place inside = absurd (omega (arith, inside))
in_first (x ∷ xs) ys zero inside = refl
in_first (x ∷ xs) ys (suc place) inside = in_first xs ys place (omega (arith, inside))

in_second : (xs ys : List Asked) (place rest : ℕ) → place ≡ length xs + rest → slice_get (xs ++ ys) place ≡ slice_get ys rest
in_second [] ys place rest is = let same : place ≡ rest = omega (arith, is) in ap (slice_get ys) same
in_second (x ∷ xs) ys zero rest is = absurd (omega (arith, is))
in_second (x ∷ xs) ys (suc place) rest is = in_second xs ys place rest (omega (arith, is))

length_repeated : (times : ℕ) (some : List Asked) → length (repeated times some) ≡ times * length some
length_repeated zero some = omega arith
length_repeated (suc times) some =
    let more : suc times * length some ≡ times * length some + length some = grind arith in
    omega (arith, more, length-append (repeated times some) some, length_repeated times some)

-- an operation at a place of repeated ones: how many times all of them stand before it, and which of them it is
record IsTimes (times place : ℕ) (some : List Asked) (one : Asked) : Type 0 where
  before : ℕ
  rest : ℕ
  is : place ≡ before * length some + rest
  few : before < times
  at : slice_get some rest ≡ Some one

times_of : (times place : ℕ) (some : List Asked) (one : Asked) → slice_get (repeated times some) place ≡ Some one → IsTimes times place some one
times_of zero place some one at = absurd (none-some one at)
times_of (suc times) place some one at =
    elim (dec_lt place (length (repeated times some))) [
      | yes early ↦
          let earlier = times_of times place some one (sym (in_first (repeated times some) some place early) ∙ at) in
          record { before = earlier.before; rest = earlier.rest; is = earlier.is; few = omega (arith, earlier.few); at = earlier.at }
      | no late ↦
          let split : place ≡ length (repeated times some) + (place - length (repeated times some)) = omega (arith, late) in
          record {
            before = times;
            rest = place - length (repeated times some);
            is = omega (arith, split, length_repeated times some);
            few = omega arith;
            at = sym (in_second (repeated times some) some place (place - length (repeated times some)) split) ∙ at;
          }
    ]

-- an operation of a body: at which place from 0 its item is, that it is this operation, and that so many come before
record IsItem (number : ℕ) (items : List Item) (object : ℕ) (call : Call) : Type 0 where
  place : ℕ
  is : item_after number items ≡ suc place
  at : slice_get items place ≡ Some (Op object call)
  before : length (operations_of (take place items)) ≡ number

found_item : (number : ℕ) (items : List Item) (object : ℕ) (call : Call) → slice_get (operations_of items) number ≡ Some (asked object call) → IsItem number items object call
found_item number [] object call at = absurd (none-some (asked object call) at)
found_item number (Work ticks ∷ items) object call at =
    let later = found_item number items object call at in
    record { place = suc later.place; is = ap suc later.is; at = later.at; before = later.before }
found_item zero (Op o c ∷ items) object call at =
    let same = same_Some (asked o c) (asked object call) at in
    record {
      place = zero;
      is = refl;
      at = ap (λ (one : Asked). Some (Op one.object one.call)) same;
      before = refl;
    }
found_item (suc number) (Op o c ∷ items) object call at =
    let later = found_item number items object call at in
    record { place = suc later.place; is = ap suc later.is; at = later.at; before = ap suc later.before }

-- what the line of an entry of a script tells
pub record IsOwnCall (system : System) (jobs place : ℕ) (entry : Entry) : Type 0 where
  pub calls : item_of system (entry_job system entry) (entry_item system entry) ≡ Some (Op entry.object entry.call)
  pub jobs_in : (1 ≤ (entry_job system entry).number) × ((entry_job system entry).number ≤ jobs)
  pub items_in : 1 ≤ entry_item system entry
  pub places : place ≡ length (script_of system ((entry_job system entry).number - 1) entry.caller) + length (operations_of (take (entry_item system entry - 1) (task_at system entry.caller).items))

pub own_call : (system : System) (jobs place : ℕ) (entry : Entry) → slice_get (script_of system jobs entry.caller) place ≡ Some (asked_of entry) → entry.index ≡ place + 1 → IsOwnCall system jobs place entry
own_call system jobs place entry at numbered =
    let items = (task_at system entry.caller).items in
    let times = times_of jobs place (operations_of items) (asked_of entry) at in
    let inside : times.rest < length (operations_of items) = slice_get_within (operations_of items) times.rest (asked_of entry) times.at in
    let many : operations system entry.caller ≡ length (operations_of items) = max-eq_left (omega (arith, inside)) in
    let split : entry.index - 1 ≡ times.before * length (operations_of items) + times.rest = omega (arith, numbered, times.is) in
    let before : (entry.index - 1) / operations system entry.caller ≡ times.before =
    ap (λ (n : ℕ). (entry.index - 1) / n) many
    ∙ ap (λ (n : ℕ). n / length (operations_of items)) split
    ∙ div-mul-add times.before (length (operations_of items)) times.rest inside
    in
    let rest : (entry.index - 1) % operations system entry.caller ≡ times.rest =
    ap (λ (n : ℕ). (entry.index - 1) % n) many
    ∙ ap (λ (n : ℕ). n % length (operations_of items)) split
    ∙ mod-mul-add times.before (length (operations_of items)) times.rest inside
    in
    let found = found_item times.rest items entry.object entry.call times.at in
    let item : entry_item system entry ≡ suc found.place = ap (λ (n : ℕ). item_after n items) rest ∙ found.is in
    let here : entry_item system entry - 1 ≡ found.place = omega (arith, item) in
    let number : (entry_job system entry).number - 1 ≡ times.before = omega (arith, before) in
    record {
      calls = ap (slice_get items) here ∙ found.at;
      jobs_in = (omega arith, omega (arith, before, times.few));
      items_in = omega (arith, item);
      places =
          times.is
          ∙ ap (λ (n : ℕ). n + times.rest) (sym (length_repeated times.before (operations_of items)) ∙ ap (λ (n : ℕ). length (repeated n (operations_of items))) (sym number))
          ∙ ap (λ (n : ℕ). length (script_of system ((entry_job system entry).number - 1) entry.caller) + n) (sym found.before ∙ ap (λ (n : ℕ). length (operations_of (take n items))) (sym here));
    }
