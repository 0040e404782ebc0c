-- Worked rows of names, ranks, times, keys, demands, costs, also of an attempt and of a retry, and of two whole
-- drawn sets.
use Rattle.std.specs.Prelude.{ℕ, ◌≡◌, true, false, refl, List, [], ◌∷◌, codes, Some}
use Rattle.rx_seq.specs.Table.{attempt_by}
use Rattle.rx_seq.specs.declared.kinds.Kind.TheVariants.{Cell, Queue, Registers, List as Ordered}
use Rattle.rx_seq.specs.declared.calls.Call.TheVariants.{Get, Add, Put, Take, Insert, Remove, Multi}
use Rattle.rx_seq.specs.declared.calls.Row.{Row}
use Rattle.rand_core.specs.Stream.{fill_bytes}
use Rattle.rand_core.specs.Steps.{stream_of, word_bytes, u32_at}
use Rattle.rx_set.specs.declared.policies.Policy.{Policy}
use Rattle.rx_set.specs.declared.policies.Policy.TheVariants.{Rm, Dm, Edf}
use Rattle.rx_set.specs.declared.items.Item.{Item}
use Rattle.rx_set.specs.declared.items.Item.TheVariants.{Work, Op}
use Rattle.rx_set.specs.declared.jobs.Job.{Job}
use Rattle.rx_set.specs.declared.jobs.Key.{Key}
use Rattle.rx_set.specs.Generator.{draw, four_objects, item_drawn, task_drawn, set_drawn, seeded, generated}
use Rattle.rx_set.specs.Names.{is_name, has_repeat}
use Rattle.rx_set.specs.System.{System, TaskRow, rank, release, due, key, is_below, ticks_of, item_at, attempt_cost, cost, retry_cost}

abbrev task : ℕ → ℕ → ℕ → List Item → TaskRow
task period deadline offset items = record { name = codes "t"; period = period; deadline = deadline; offset = offset; items = items }

abbrev job : ℕ → ℕ → Job
job task number = record { task = task; number = number }

abbrev key_of : ℕ → ℕ → ℕ → Key
key_of first second third = record { first = first; second = second; third = third }

-- x has the shorter period and the longer deadline, y the other way round
abbrev x : TaskRow
x = task 10 9 3 (Work 2 ∷ [])

abbrev y : TaskRow
y = task 20 4 0 (Work 5 ∷ Op 0 Get ∷ Op 1 (Put 7) ∷ [])

-- a cell, and a queue of one number
abbrev system : Policy → List TaskRow → System
system policy tasks = record {
  policy = policy;
  objects = record { name = codes "c"; part = record { kind = Cell; cap = 1 } } ∷ record { name = codes "q"; part = record { kind = Queue; cap = 1 } } ∷ [];
  tasks = tasks;
  demands = record { task = 1; job = 2; item = 1; ticks = 9 } ∷ [];
}

-- equal periods: the first task in the file has rank 1
pub tie_first : rank (system Rm (task 10 10 0 [] ∷ task 10 5 0 [] ∷ [])) 0 ≡ 1
tie_first = refl

pub tie_second : rank (system Rm (task 10 10 0 [] ∷ task 10 5 0 [] ∷ [])) 1 ≡ 2
tie_second = refl

-- by periods x comes first, and by deadlines y
pub by_period : rank (system Rm (x ∷ y ∷ [])) 0 ≡ 1
by_period = refl

pub by_period_other : rank (system Rm (x ∷ y ∷ [])) 1 ≡ 2
by_period_other = refl

pub by_deadline : rank (system Dm (x ∷ y ∷ [])) 0 ≡ 2
by_deadline = refl

pub by_deadline_other : rank (system Dm (x ∷ y ∷ [])) 1 ≡ 1
by_deadline_other = refl

-- under edf a rank is the place in the file
pub by_place : rank (system Edf (y ∷ x ∷ [])) 0 ≡ 1
by_place = refl

-- job 3 of x: offset 3 and two periods of 10, then 9 ticks to its deadline
pub third_release : release (system Rm (x ∷ y ∷ [])) (job 0 3) ≡ 23
third_release = refl

pub third_due : due (system Rm (x ∷ y ∷ [])) (job 0 3) ≡ 32
third_due = refl

-- keys: rank, 0 and number, or deadline, task and number
pub key_by_rank : key (system Dm (x ∷ y ∷ [])) (job 0 3) ≡ key_of 2 0 3
key_by_rank = refl

pub key_by_deadline : key (system Edf (x ∷ y ∷ [])) (job 0 3) ≡ key_of 32 0 3
key_by_deadline = refl

pub key_of_other : key (system Edf (x ∷ y ∷ [])) (job 1 1) ≡ key_of 4 1 1
key_of_other = refl

-- the first part counts before the second, and the second before the third
pub below_by_first : is_below (key_of 1 9 9) (key_of 2 0 0) ≡ true
below_by_first = refl

pub below_by_second : is_below (key_of 2 0 9) (key_of 2 1 0) ≡ true
below_by_second = refl

pub below_by_third : is_below (key_of 2 1 3) (key_of 2 1 4) ≡ true
below_by_third = refl

pub not_below_itself : is_below (key_of 2 1 3) (key_of 2 1 3) ≡ false
not_below_itself = refl

pub not_below_lower : is_below (key_of 2 0 0) (key_of 1 9 9) ≡ false
not_below_lower = refl

-- an attempt takes 2 ticks on a cell, and 8 on a queue of one number
pub cell_attempt : attempt_cost (system Rm (x ∷ y ∷ [])) 0 ≡ 2
cell_attempt = refl

pub queue_attempt : attempt_cost (system Rm (x ∷ y ∷ [])) 1 ≡ 8
queue_attempt = refl

-- and 14 on a list or registers of four
pub list_attempt : attempt_by Ordered 4 ≡ 14
list_attempt = refl

pub registers_attempt : attempt_by Registers 4 ≡ 14
registers_attempt = refl

-- 5 ticks of work, one attempt on the cell and one on the queue
pub body_cost : cost (system Rm (x ∷ y ∷ [])) 1 ≡ 15
body_cost = refl

-- job 2 of y needs 9 ticks for its first item, and the others the stated 5
pub demanded_ticks : ticks_of (system Rm []).demands (job 1 2) 1 5 ≡ 9
demanded_ticks = refl

pub stated_ticks : ticks_of (system Rm []).demands (job 1 3) 1 5 ≡ 5
stated_ticks = refl

pub demanded_item : item_at (system Rm (x ∷ y ∷ [])) (job 1 2) 0 ≡ Some (Work 9)
demanded_item = refl

pub operation_item : item_at (system Rm (x ∷ y ∷ [])) (job 1 2) 1 ≡ Some (Op 0 Get)
operation_item = refl

-- a letter, then letters, digits or `_`, 1 to 16 bytes
pub one_letter : is_name (codes "a") ≡ true
one_letter = refl

pub with_digits : is_name (codes "pump_2") ≡ true
with_digits = refl

pub digit_first : is_name (codes "9a") ≡ false
digit_first = refl

pub with_dash : is_name (codes "a-b") ≡ false
with_dash = refl

pub no_bytes : is_name [] ≡ false
no_bytes = refl

pub sixteen_bytes : is_name (codes "abcdefghijklmnop") ≡ true
sixteen_bytes = refl

pub seventeen_bytes : is_name (codes "abcdefghijklmnopq") ≡ false
seventeen_bytes = refl

pub two_alike : has_repeat (codes "a" ∷ codes "b" ∷ codes "a" ∷ []) ≡ true
two_alike = refl

pub all_apart : has_repeat (codes "a" ∷ codes "b" ∷ codes "ab" ∷ []) ≡ false
all_apart = refl

-- the longest attempt is that on the queue; a task that only works has none
pub longest_attempt : retry_cost (system Rm (x ∷ y ∷ [])) ≡ 8
longest_attempt = refl

pub no_attempt : retry_cost (system Rm (x ∷ [])) ≡ 0
no_attempt = refl

-- two tasks that share a cell and a queue, with a demand row, as the test builds them
abbrev pub pair : Policy → System
pair policy = record {
  policy = policy;
  objects = record { name = codes "c"; part = record { kind = Cell; cap = 1 } } ∷ record { name = codes "q"; part = record { kind = Queue; cap = 1 } } ∷ [];
  tasks =
      record { name = codes "fast"; period = 10; deadline = 9; offset = 3; items = Work 2 ∷ [] }
      ∷ record { name = codes "urgent"; period = 20; deadline = 4; offset = 0; items = Op 0 (Add 1) ∷ Work 1 ∷ Op 1 Take ∷ [] } ∷ [];
  demands = record { task = 1; job = 2; item = 2; ticks = 4 } ∷ [];
}

-- two drawn sets, with the numbers of another implementation of the generator
abbrev change : ℕ → ℕ → ℕ → Row
change register expected written = record { i = register; old = expected; new = written }

abbrev drawn_task : List ℕ → ℕ → ℕ → List Item → TaskRow
drawn_task text period offset items = record { name = text; period = period; deadline = period; offset = offset; items = items }

abbrev drawn_set : Policy → List TaskRow → System
drawn_set policy tasks = record { policy = policy; objects = four_objects; tasks = tasks; demands = [] }

pub drawn_from_zero : generated 0
    ≡ drawn_set Edf (
    drawn_task (codes "t1") 620 30 (Op 0 (Add 6) ∷ Work 3 ∷ Op 2 (Remove 8) ∷ [])
    ∷ drawn_task (codes "t2") 620 9 (Op 0 (Add 3) ∷ [])
    ∷ drawn_task (codes "t3") 220 87 (Work 3 ∷ [])
    ∷ drawn_task (codes "t4") 860 51 (Op 3 (Multi 1 (change 1 1 1 ∷ change 0 0 0 ∷ change 0 0 0 ∷ change 0 0 0 ∷ [])) ∷ Work 3 ∷ Op 1 Take ∷ Work 3 ∷ []) ∷ []
    )
unfolding generated set_drawn seeded task_drawn item_drawn draw fill_bytes stream_of word_bytes u32_at
drawn_from_zero = refl

pub drawn_from_greatest : generated 18446744073709551615
    ≡ drawn_set Rm (
    drawn_task (codes "t1") 720 87 (Op 1 Take ∷ Work 1 ∷ [])
    ∷ drawn_task (codes "t2") 160 31 (Op 1 Take ∷ Work 2 ∷ Op 2 (Insert 5) ∷ Op 1 (Put 32) ∷ [])
    ∷ drawn_task (codes "t3") 240 1 (Op 2 (Insert 15) ∷ [])
    ∷ drawn_task (codes "t4") 160 90 (Op 2 (Remove 8) ∷ [])
    ∷ drawn_task (codes "t5") 680 10 (Op 0 (Add 4) ∷ Op 2 (Remove 14) ∷ [])
    ∷ drawn_task (codes "t6") 100 6 (Op 1 (Put 53) ∷ Work 3 ∷ []) ∷ []
    )
unfolding generated set_drawn seeded task_drawn item_drawn draw fill_bytes stream_of word_bytes u32_at
drawn_from_greatest = refl
