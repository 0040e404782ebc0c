-- The table of the sequential objects. A state is a list of numbers.
use Rattle.std.specs.Prelude.{ℕ, ◌≡◌, ◌≤◌, ◌+◌, ◌-◌, ◌*◌, ◌==◌, ◌&&◌, ◌||◌, nat_lt, nat_le, not, Bool, true, false, if◌then◌else◌, List, [], ◌∷◌, ◌++◌, length, get_or, slice_set, replicate, filter, take, drop, map, Option, Some, None}
use Rattle.std.specs.List.{list_any, list_all}
use Rattle.rx_seq.specs.declared.kinds.Kind.{Kind}
use Rattle.rx_seq.specs.declared.kinds.Kind.TheVariants.{Cell, Queue, Registers, List as Ordered}
use Rattle.rx_seq.specs.declared.kinds.Part.{Part}
use Rattle.rx_seq.specs.declared.calls.Row.{Row}
use Rattle.rx_seq.specs.declared.calls.Call.{Call}
use Rattle.rx_seq.specs.declared.calls.Call.TheVariants.{Get, Set, Add, Swap, Put, Take, Insert, Remove, Has, Read, Shift, Multi}
use Rattle.rx_seq.specs.declared.replies.Reply.{Reply}
use Rattle.rx_seq.specs.declared.replies.Reply.TheVariants.{Done, Over, Differs, Full, Empty, Added, Present, Removed, Absent, Yes, No, Short}

-- the greatest value of a cell, which has 24 bits, and the greatest other value, which has 32
abbrev pub most_cell : ℕ
most_cell = 16777215

abbrev pub most_value : ℕ
most_value = 4294967295

-- a capacity in its limits: 1 for a cell, 1 to 64 for a queue or an ordered list, 1 to 16 for registers
abbrev pub IsCap : Kind → ℕ → Type 0
IsCap Cell cap = cap ≡ 1
IsCap Queue cap = (1 ≤ cap) × (cap ≤ 64)
IsCap Ordered cap = (1 ≤ cap) × (cap ≤ 64)
IsCap Registers cap = (1 ≤ cap) × (cap ≤ 16)

-- a part is a kind of object with a capacity in its limits
abbrev pub IsPart : Part → Type 0
IsPart part = IsCap part.kind part.cap

-- how many steps an attempt on a part has: 2 on a cell, and twice the capacity and 6 more on any other: a load, as many
-- words as are read and written at most, and the exchange
abbrev pub attempt_by : Kind → ℕ → ℕ
attempt_by Cell cap = 2
attempt_by Queue cap = 2 * cap + 6
attempt_by Ordered cap = 2 * cap + 6
attempt_by Registers cap = 2 * cap + 6

abbrev pub attempt_steps : Part → ℕ
attempt_steps part = attempt_by part.kind part.cap

-- the first state of a part: a cell has 0, a queue and a list are empty, and each register has 0
abbrev pub start_by : Kind → ℕ → List ℕ
start_by Cell cap = 0 ∷ []
start_by Queue cap = []
start_by Ordered cap = []
start_by Registers cap = replicate cap 0

abbrev pub start_of : Part → List ℕ
start_of part = start_by part.kind part.cap

-- a number that a queue, a list or a register can have
abbrev pub is_value : ℕ → Bool
is_value n = nat_le n most_value

-- whether a call is one of a cell, a queue or a list, with its numbers in range
abbrev pub fits_cell : Call → Bool
fits_cell Get = true
fits_cell (Set v) = nat_le v most_cell
fits_cell (Add v) = nat_le v most_cell
fits_cell (Swap old new) = nat_le old most_cell && nat_le new most_cell
fits_cell _ = false

abbrev pub fits_queue : Call → Bool
fits_queue (Put v) = is_value v
fits_queue Take = true
fits_queue _ = false

abbrev pub fits_list : Call → Bool
fits_list (Insert k) = is_value k
fits_list (Remove k) = is_value k
fits_list (Has k) = is_value k
fits_list _ = false

-- whether a number is there twice
abbrev pub have_repeat : List ℕ → Bool
have_repeat [] = false
have_repeat (n ∷ ns) = list_any (λ m. m == n) ns || have_repeat ns

-- a row of zeros
abbrev pub is_blank : Row → Bool
is_blank row = (row.i == 0) && (row.old == 0) && (row.new == 0)

-- the register that a row names
abbrev pub register_of : Row → ℕ
register_of row = row.i

-- a row names one of so many registers, and its values are in range
abbrev pub is_row : ℕ → Row → Bool
is_row cap row = nat_lt row.i cap && is_value row.old && is_value row.new

-- 1 to 4 rows that name different registers, and zeros after them
abbrev pub are_rows : ℕ → ℕ → List Row → Bool
are_rows cap count rows =
    nat_le 1 count && nat_le count 4 && list_all (is_row cap) (take count rows)
    && not (have_repeat (map register_of (take count rows))) && list_all is_blank (drop count rows)

-- whether a call is one of so many registers, with its numbers in range
abbrev pub fits_registers : ℕ → Call → Bool
fits_registers cap (Read i) = nat_lt i cap
fits_registers cap (Shift from to n) = nat_lt from cap && nat_lt to cap && not (from == to) && is_value n
fits_registers cap (Multi count rows) = are_rows cap count rows
fits_registers cap _ = false

-- whether a call is one of a kind, with its numbers in range for this capacity
abbrev pub fits_by : Kind → ℕ → Call → Bool
fits_by Cell cap call = fits_cell call
fits_by Queue cap call = fits_queue call
fits_by Ordered cap call = fits_list call
fits_by Registers cap call = fits_registers cap call

-- a call fits a part if it is one of its kind with its numbers in range: values of a cell have at most 24 bits, and
-- other values at most 32
abbrev pub fits_part : Part → Call → Bool
fits_part part call = fits_by part.kind part.cap call

-- what a call does: the state after it, and its reply
pub record Effect : Type 0 where
  pub state : List ℕ
  pub reply : Reply

-- this state and this reply
abbrev pub answers : List ℕ → Reply → Effect
answers state reply = record { state = state; reply = reply }

-- the number is in the list
abbrev pub has_number : ℕ → List ℕ → Bool
has_number k state = list_any (λ n. n == k) state

-- the numbers with one more, at its place in the order
abbrev pub with_number : ℕ → List ℕ → List ℕ
with_number k [] = k ∷ []
with_number k (n ∷ ns) = if nat_lt k n then k ∷ n ∷ ns else n ∷ with_number k ns

-- the numbers without one
abbrev pub without_number : ℕ → List ℕ → List ℕ
without_number k state = filter (λ n. not (n == k)) state

-- the value of the first row's register that is not its old value, if there is one
abbrev pub first_difference : List ℕ → List Row → Option ℕ
first_difference state [] = None
first_difference state (row ∷ rows) =
    if get_or state row.i 0 == row.old then first_difference state rows else Some (get_or state row.i 0)

-- each of the rows' registers has its new value
abbrev pub with_rows : List ℕ → List Row → List ℕ
with_rows state [] = state
with_rows state (row ∷ rows) = with_rows (slice_set state row.i row.new) rows

-- a transaction changes nothing where a register differs from its old value, and else sets them all
abbrev pub transaction : List ℕ → ℕ → List Row → Option ℕ → Effect
transaction state count rows (Some v) = answers state (Differs v)
transaction state count rows None = answers (with_rows state rows) (Done count)

-- a shift moves n from one register to another, unless the first has less, or the sum would be out of range
abbrev pub shifted : List ℕ → ℕ → ℕ → ℕ → Effect
shifted state from to n =
    let have = get_or state from 0 in let sum = get_or state to 0 + n in
    if nat_lt have n then answers state (Short have)
    else (if nat_lt most_value sum then answers state Over else answers (slice_set (slice_set state from (have - n)) to sum) (Done sum))

-- the oldest number of a queue is taken, if there is one
abbrev pub taken : List ℕ → Effect
taken [] = answers [] Empty
taken (n ∷ ns) = answers ns (Done n)

-- what a call does to a state of a part with this capacity: the state after it, and its reply. This is the table of the
-- sequential objects, a line for each call and case. Only calls that fit have a meaning
abbrev pub effect_by : ℕ → List ℕ → Call → Effect
effect_by cap state Get = answers state (Done (get_or state 0 0))
effect_by cap state (Set v) = answers (v ∷ []) (Done v)
effect_by cap state (Add v) =
    let sum = get_or state 0 0 + v in if nat_lt most_cell sum then answers state Over else answers (sum ∷ []) (Done sum)
effect_by cap state (Swap old new) =
    let value = get_or state 0 0 in if value == old then answers (new ∷ []) (Done new) else answers state (Differs value)
effect_by cap state (Put v) = if length state == cap then answers state Full else answers (state ++ v ∷ []) (Done (length state + 1))
effect_by cap state Take = taken state
effect_by cap state (Insert k) =
    if has_number k state then answers state Present
    else (if length state == cap then answers state Full else answers (with_number k state) Added)
effect_by cap state (Remove k) = if has_number k state then answers (without_number k state) Removed else answers state Absent
effect_by cap state (Has k) = answers state (if has_number k state then Yes else No)
effect_by cap state (Read i) = answers state (Done (get_or state i 0))
effect_by cap state (Shift from to n) = shifted state from to n
effect_by cap state (Multi count rows) =
    transaction state count (take count rows) (first_difference state (take count rows))

abbrev pub effect : Part → List ℕ → Call → Effect
effect part state call = effect_by part.cap state call
