-- Worked orders of the entries of some callers: two callers on one cell, three on two, where the smallest that is ready
-- goes first, and two of whom one must wait until the other has looked; and lists that are of no history.
use Rattle.std.specs.Prelude.{ℕ, ◌≡◌, refl, List, [], ◌∷◌, Some, None}
use Rattle.rx_seq.specs.declared.calls.Call.{Call}
use Rattle.rx_seq.specs.declared.calls.Call.TheVariants.{Get, Set, Add}
use Rattle.rx_seq.specs.declared.replies.Reply.TheVariants.{Done}
use Rattle.rx_seq.specs.declared.entries.Entry.{Entry}
use Rattle.rx_merge.specs.Merged.{entries_on, louds_on, first_ready, merged, next_of, ready_of}

abbrev pub made : ℕ → ℕ → ℕ → Call → ℕ → ℕ → Entry
made caller index object call value tag = record { caller = caller; index = index; object = object; call = call; reply = Done value; tag = tag }

-- two callers add to one cell, the second one first
abbrev pub late : Entry
late = made 0 1 0 (Add 1) 6 2

abbrev pub early : Entry
early = made 1 1 0 (Add 5) 5 1

abbrev pub two_lists : List (List Entry)
two_lists = (late ∷ []) ∷ (early ∷ []) ∷ []

pub nothing_ready : ready_of two_lists [] 0 ≡ None
nothing_ready = refl

pub second_ready : first_ready two_lists [] ≡ Some early
second_ready = refl

pub next_tag_first : merged two_lists ≡ late ∷ early ∷ []
next_tag_first = refl

-- three callers on two cells; where several are ready, the smallest goes first
abbrev pub zero_writes : Entry
zero_writes = made 0 1 1 (Set 7) 7 2

abbrev pub one_writes : Entry
one_writes = made 1 1 0 (Set 3) 3 1

abbrev pub one_reads : Entry
one_reads = made 1 2 1 Get 7 2

abbrev pub two_writes : Entry
two_writes = made 2 1 1 (Set 4) 4 1

abbrev pub two_reads : Entry
two_reads = made 2 2 0 Get 3 1

abbrev pub three_lists : List (List Entry)
three_lists = (zero_writes ∷ []) ∷ (one_writes ∷ one_reads ∷ []) ∷ (two_writes ∷ two_reads ∷ []) ∷ []

pub second_entry_next : next_of three_lists (one_writes ∷ []) 1 ≡ Some one_reads
second_entry_next = refl

pub last_caller_goes_when_alone : first_ready three_lists (one_writes ∷ []) ≡ Some two_writes
last_caller_goes_when_alone = refl

pub smallest_first : merged three_lists ≡ two_reads ∷ one_reads ∷ zero_writes ∷ two_writes ∷ one_writes ∷ []
smallest_first = refl

pub on_one_object : entries_on 1 (merged three_lists) ≡ one_reads ∷ zero_writes ∷ two_writes ∷ []
on_one_object = refl

-- one caller writes a cell at which the other has looked before, after an add to another cell
abbrev pub zero_sets : Entry
zero_sets = made 0 1 0 (Set 5) 5 1

abbrev pub one_adds : Entry
one_adds = made 1 1 1 (Add 2) 2 1

abbrev pub one_looks : Entry
one_looks = made 1 2 0 Get 0 0

abbrev pub looked_lists : List (List Entry)
looked_lists = (zero_sets ∷ []) ∷ (one_adds ∷ one_looks ∷ []) ∷ []

-- the write has the next tag, but the look that it may not overtake is left, though not next
pub write_waits_for_look : ready_of looked_lists [] 0 ≡ None
write_waits_for_look = refl

pub other_goes_first : first_ready looked_lists [] ≡ Some one_adds
other_goes_first = refl

-- and once it is next it goes before the write of the smaller caller
pub look_next : first_ready looked_lists (one_adds ∷ []) ≡ Some one_looks
look_next = refl

pub look_before_write : merged looked_lists ≡ zero_sets ∷ one_looks ∷ one_adds ∷ []
look_before_write = refl

-- a look is ready at its own tag, and not one later
pub look_too_late : ready_of looked_lists (zero_sets ∷ one_adds ∷ []) 1 ≡ None
look_too_late = refl

-- the entries on the cell, and those that changed it
pub all_on_cell : entries_on 0 (merged looked_lists) ≡ zero_sets ∷ one_looks ∷ []
all_on_cell = refl

pub loud_on_cell : louds_on 0 (merged looked_lists) ≡ zero_sets ∷ []
loud_on_cell = refl

-- one caller looks after the other's add, which comes after that one's own look
abbrev pub zero_looks : Entry
zero_looks = made 0 1 0 Get 5 1

abbrev pub one_looks_first : Entry
one_looks_first = made 1 1 0 Get 0 0

abbrev pub one_adds_then : Entry
one_adds_then = made 1 2 0 (Add 5) 5 1

pub add_between_looks : merged ((zero_looks ∷ []) ∷ (one_looks_first ∷ one_adds_then ∷ []) ∷ []) ≡ zero_looks ∷ one_adds_then ∷ one_looks_first ∷ []
add_between_looks = refl

-- nobody called
pub no_lists : merged [] ≡ []
no_lists = refl

-- an entry whose tag never comes is never taken, so such lists are of no history
pub stuck : merged ((late ∷ []) ∷ []) ≡ []
stuck = refl
