-- Worked rows of the table of the sequential objects: what a call makes of a state, its reply, and whether it is quiet.
use Rattle.std.specs.Prelude.{ℕ, ◌≡◌, true, false, refl, [], ◌∷◌}
use Rattle.rx_seq.specs.declared.kinds.Kind.TheVariants.{Cell, Queue, Registers, List as Ordered}
use Rattle.rx_seq.specs.declared.kinds.Part.{Part}
use Rattle.rx_seq.specs.declared.calls.Row.{Row}
use Rattle.rx_seq.specs.declared.calls.Call.{Call}
use Rattle.rx_seq.specs.declared.calls.Call.TheVariants.{Get, Set, Add, Swap, Put, Take, Insert, Remove, Has, Read, Shift, Multi}
use Rattle.rx_seq.specs.declared.replies.Reply.TheVariants.{Done, Over, Differs, Full, Empty, Added, Present, Removed, Absent, Yes, No, Short}
use Rattle.rx_seq.specs.Table.{start_of, fits_part, effect, answers}
use Rattle.rx_seq.specs.Quiet.{is_quiet}

abbrev cell : Part
cell = record { kind = Cell; cap = 1 }

-- a queue and an ordered list of one number, and four registers
abbrev queue : Part
queue = record { kind = Queue; cap = 1 }

abbrev ordered : Part
ordered = record { kind = Ordered; cap = 1 }

abbrev registers : Part
registers = record { kind = Registers; cap = 4 }

abbrev change : ℕ → ℕ → ℕ → Row
change i old new = record { i = i; old = old; new = new }

-- one call on each of the four registers
abbrev all_four : (a b c d : Row) → Call
all_four a b c d = Multi 4 (a ∷ b ∷ c ∷ d ∷ [])

-- the first states
pub cell_start : start_of cell ≡ 0 ∷ []
cell_start = refl

pub queue_start : start_of queue ≡ []
queue_start = refl

pub registers_start : start_of registers ≡ 0 ∷ 0 ∷ 0 ∷ 0 ∷ []
registers_start = refl

-- a queue that has one number is full, and gives it back
pub put : effect queue [] (Put 5) ≡ answers (5 ∷ []) (Done 1)
put = refl

pub put_on_full : effect queue (5 ∷ []) (Put 6) ≡ answers (5 ∷ []) Full
put_on_full = refl

pub take : effect queue (5 ∷ []) Take ≡ answers [] (Done 5)
take = refl

pub take_of_empty : effect queue [] Take ≡ answers [] Empty
take_of_empty = refl

-- a list holds a number once; a number that it has is told before that it is full
pub insert : effect ordered [] (Insert 3) ≡ answers (3 ∷ []) Added
insert = refl

pub insert_again : effect ordered (3 ∷ []) (Insert 3) ≡ answers (3 ∷ []) Present
insert_again = refl

pub insert_on_full : effect ordered (3 ∷ []) (Insert 4) ≡ answers (3 ∷ []) Full
insert_on_full = refl

pub has : effect ordered (3 ∷ []) (Has 3) ≡ answers (3 ∷ []) Yes
has = refl

pub remove : effect ordered (3 ∷ []) (Remove 3) ≡ answers [] Removed
remove = refl

pub remove_again : effect ordered [] (Remove 3) ≡ answers [] Absent
remove_again = refl

pub has_not : effect ordered [] (Has 3) ≡ answers [] No
has_not = refl

-- a longer list keeps its numbers in rising order
pub insert_between : effect (record { kind = Ordered; cap = 4 }) (3 ∷ 9 ∷ []) (Insert 7) ≡ answers (3 ∷ 7 ∷ 9 ∷ []) Added
insert_between = refl

-- four registers are written at once, if all have their old values; the first that differs is told
pub multi : effect registers (0 ∷ 0 ∷ 0 ∷ 0 ∷ []) (all_four (change 0 0 5) (change 1 0 6) (change 2 0 7) (change 3 0 8)) ≡ answers (5 ∷ 6 ∷ 7 ∷ 8 ∷ []) (Done 4)
multi = refl

pub multi_differs : effect registers (5 ∷ 6 ∷ 7 ∷ 8 ∷ []) (all_four (change 0 5 1) (change 1 6 1) (change 2 9 1) (change 3 8 1)) ≡ answers (5 ∷ 6 ∷ 7 ∷ 8 ∷ []) (Differs 7)
multi_differs = refl

pub read : effect registers (5 ∷ 6 ∷ 7 ∷ 8 ∷ []) (Read 2) ≡ answers (5 ∷ 6 ∷ 7 ∷ 8 ∷ []) (Done 7)
read = refl

-- 8 goes from register 3 to register 0, which then has 13; nothing is left to move
pub shift : effect registers (5 ∷ 6 ∷ 7 ∷ 8 ∷ []) (Shift 3 0 8) ≡ answers (13 ∷ 6 ∷ 7 ∷ 0 ∷ []) (Done 13)
shift = refl

pub shift_short : effect registers (13 ∷ 6 ∷ 7 ∷ 0 ∷ []) (Shift 3 0 1) ≡ answers (13 ∷ 6 ∷ 7 ∷ 0 ∷ []) (Short 0)
shift_short = refl

-- a register holds no more than 32 bits
pub shift_over : effect registers (4294967295 ∷ 1 ∷ 0 ∷ 0 ∷ []) (Shift 1 0 1) ≡ answers (4294967295 ∷ 1 ∷ 0 ∷ 0 ∷ []) Over
shift_over = refl

-- a cell holds no more than 24 bits
pub set : effect cell (0 ∷ []) (Set 16777215) ≡ answers (16777215 ∷ []) (Done 16777215)
set = refl

pub add_over : effect cell (16777215 ∷ []) (Add 1) ≡ answers (16777215 ∷ []) Over
add_over = refl

pub swap : effect cell (16777215 ∷ []) (Swap 16777215 0) ≡ answers (0 ∷ []) (Done 0)
swap = refl

pub swap_differs : effect cell (0 ∷ []) (Swap 5 6) ≡ answers (0 ∷ []) (Differs 0)
swap_differs = refl

pub add : effect cell (0 ∷ []) (Add 7) ≡ answers (7 ∷ []) (Done 7)
add = refl

pub get : effect cell (7 ∷ []) Get ≡ answers (7 ∷ []) (Done 7)
get = refl

-- a call fits an object of its own kind
pub fits_get : fits_part cell Get ≡ true
fits_get = refl

pub fits_other_kind : fits_part queue Get ≡ false
fits_other_kind = refl

-- a cell's numbers have at most 24 bits
pub fits_set : fits_part cell (Set 16777215) ≡ true
fits_set = refl

pub fits_great_set : fits_part cell (Set 16777216) ≡ false
fits_great_set = refl

-- registers are numbered below their count, and an amount is moved between two of them
pub fits_read : fits_part registers (Read 3) ≡ true
fits_read = refl

pub fits_far_read : fits_part registers (Read 4) ≡ false
fits_far_read = refl

pub fits_shift : fits_part registers (Shift 3 0 8) ≡ true
fits_shift = refl

pub fits_shift_to_itself : fits_part registers (Shift 3 3 8) ≡ false
fits_shift_to_itself = refl

-- a transaction names 1 to 4 registers, none twice, and has zeros after its rows
pub fits_multi : fits_part registers (Multi 2 (change 0 0 5 ∷ change 1 0 6 ∷ change 0 0 0 ∷ change 0 0 0 ∷ [])) ≡ true
fits_multi = refl

pub fits_repeat : fits_part registers (Multi 2 (change 1 0 5 ∷ change 1 0 6 ∷ change 0 0 0 ∷ change 0 0 0 ∷ [])) ≡ false
fits_repeat = refl

pub fits_no_rows : fits_part registers (Multi 0 (change 0 0 0 ∷ change 0 0 0 ∷ change 0 0 0 ∷ change 0 0 0 ∷ [])) ≡ false
fits_no_rows = refl

pub fits_no_zeros : fits_part registers (Multi 1 (change 0 0 5 ∷ change 1 0 6 ∷ change 0 0 0 ∷ change 0 0 0 ∷ [])) ≡ false
fits_no_zeros = refl

-- a longer queue gives back first what came first
pub put_behind : effect (record { kind = Queue; cap = 2 }) (5 ∷ []) (Put 6) ≡ answers (5 ∷ 6 ∷ []) (Done 2)
put_behind = refl

pub take_first : effect (record { kind = Queue; cap = 2 }) (5 ∷ 6 ∷ []) Take ≡ answers (6 ∷ []) (Done 5)
take_first = refl

-- a longer list stays in order
pub list_start : start_of ordered ≡ []
list_start = refl

pub remove_between : effect (record { kind = Ordered; cap = 4 }) (3 ∷ 7 ∷ 9 ∷ []) (Remove 7) ≡ answers (3 ∷ 9 ∷ []) Removed
remove_between = refl

-- too little is told before a sum that would not fit
pub short_before_over : effect registers (1 ∷ 4294967295 ∷ 0 ∷ 0 ∷ []) (Shift 0 1 5) ≡ answers (1 ∷ 4294967295 ∷ 0 ∷ 0 ∷ []) (Short 1)
short_before_over = refl

-- two of the rows differ, and the first of them is told
pub multi_first : effect registers (5 ∷ 6 ∷ 7 ∷ 8 ∷ []) (all_four (change 3 8 1) (change 1 0 1) (change 2 0 1) (change 0 5 1)) ≡ answers (5 ∷ 6 ∷ 7 ∷ 8 ∷ []) (Differs 6)
multi_first = refl

-- a transaction of two rows
pub multi_two : effect registers (5 ∷ 6 ∷ 7 ∷ 8 ∷ []) (Multi 2 (change 2 7 9 ∷ change 0 5 1 ∷ change 0 0 0 ∷ change 0 0 0 ∷ [])) ≡ answers (1 ∷ 6 ∷ 9 ∷ 8 ∷ []) (Done 2)
multi_two = refl

-- a register past the last one fits no call
pub fits_far_shift : fits_part registers (Shift 0 4 1) ≡ false
fits_far_shift = refl

pub fits_far_multi : fits_part registers (Multi 1 (change 4 0 5 ∷ change 0 0 0 ∷ change 0 0 0 ∷ change 0 0 0 ∷ [])) ≡ false
fits_far_multi = refl

-- a call that looks is quiet, whatever it is told
pub quiet_get : is_quiet Get (Done 7) ≡ true
quiet_get = refl

pub quiet_read : is_quiet (Read 2) (Done 7) ≡ true
quiet_read = refl

pub quiet_has : is_quiet (Has 3) Yes ≡ true
quiet_has = refl

pub quiet_has_not : is_quiet (Has 3) No ≡ true
quiet_has_not = refl

-- so is one that adds or moves nothing, or writes what must be there
pub quiet_add : is_quiet (Add 0) (Done 7) ≡ true
quiet_add = refl

pub quiet_swap : is_quiet (Swap 5 5) (Done 5) ≡ true
quiet_swap = refl

pub quiet_shift : is_quiet (Shift 3 0 0) (Done 13) ≡ true
quiet_shift = refl

pub quiet_multi : is_quiet (Multi 2 (change 0 5 5 ∷ change 2 7 7 ∷ change 0 0 0 ∷ change 0 0 0 ∷ [])) (Done 2) ≡ true
quiet_multi = refl

-- and each call whose reply tells of no change
pub quiet_over : is_quiet (Add 1) Over ≡ true
quiet_over = refl

pub quiet_differs : is_quiet (Swap 5 6) (Differs 0) ≡ true
quiet_differs = refl

pub quiet_put_on_full : is_quiet (Put 6) Full ≡ true
quiet_put_on_full = refl

pub quiet_take_of_empty : is_quiet Take Empty ≡ true
quiet_take_of_empty = refl

pub quiet_insert_again : is_quiet (Insert 3) Present ≡ true
quiet_insert_again = refl

pub quiet_insert_on_full : is_quiet (Insert 4) Full ≡ true
quiet_insert_on_full = refl

pub quiet_remove_again : is_quiet (Remove 3) Absent ≡ true
quiet_remove_again = refl

pub quiet_short : is_quiet (Shift 3 0 1) (Short 0) ≡ true
quiet_short = refl

pub quiet_multi_differs : is_quiet (all_four (change 0 5 1) (change 1 6 1) (change 2 9 1) (change 3 8 1)) (Differs 7) ≡ true
quiet_multi_differs = refl

-- a set is loud, even of the value that is there
pub loud_set : is_quiet (Set 7) (Done 7) ≡ false
loud_set = refl

-- and so is each call that changes something
pub loud_add : is_quiet (Add 1) (Done 8) ≡ false
loud_add = refl

pub loud_swap : is_quiet (Swap 5 6) (Done 6) ≡ false
loud_swap = refl

pub loud_put : is_quiet (Put 5) (Done 1) ≡ false
loud_put = refl

pub loud_take : is_quiet Take (Done 5) ≡ false
loud_take = refl

pub loud_insert : is_quiet (Insert 3) Added ≡ false
loud_insert = refl

pub loud_remove : is_quiet (Remove 3) Removed ≡ false
loud_remove = refl

pub loud_shift : is_quiet (Shift 3 0 8) (Done 13) ≡ false
loud_shift = refl

-- one row that changes its register makes a transaction loud
pub loud_multi : is_quiet (Multi 2 (change 0 5 5 ∷ change 2 7 8 ∷ change 0 0 0 ∷ change 0 0 0 ∷ [])) (Done 2) ≡ false
loud_multi = refl
