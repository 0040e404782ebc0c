-- Worked rows of the admission tests: needs, least times and what is due.
use Rattle.std.specs.Prelude.{ℕ, ◌≡◌, refl, List, [], ◌∷◌, codes, Some, None}
use Rattle.rx_seq.specs.declared.kinds.Kind.{Kind}
use Rattle.rx_seq.specs.declared.kinds.Kind.TheVariants.{Cell, Queue}
use Rattle.rx_seq.specs.declared.calls.Call.TheVariants.{Add, Put, Take}
use Rattle.rx_set.specs.declared.policies.Policy.{Policy}
use Rattle.rx_set.specs.declared.policies.Policy.TheVariants.{Rm, Edf}
use Rattle.rx_set.specs.declared.items.Item.{Item}
use Rattle.rx_set.specs.declared.items.Item.TheVariants.{Work, Op}
use Rattle.rx_set.specs.System.{System, TaskRow}
use Rattle.rx_set.specs.Admission.{ceiling, need, ranked_task, least_time, unserved, due_jobs, due_need}

abbrev task : ℕ → ℕ → List Item → TaskRow
task period deadline items = record { name = codes "t"; period = period; deadline = deadline; offset = 0; items = items }

abbrev system : Policy → Kind → List TaskRow → System
system policy kind tasks = record {
  policy = policy;
  objects = record { name = codes "o"; part = record { kind = kind; cap = 1 } } ∷ [];
  tasks = tasks;
  demands = [];
}

-- a short task and a long one add to one cell; the deadline of the long one is given
abbrev two : ℕ → System
two deadline = system Rm Cell (task 10 10 (Op 0 (Add 1) ∷ []) ∷ task 20 deadline (Work 1 ∷ Op 0 (Add 5) ∷ Work 1 ∷ []) ∷ [])

-- the long one needs its 4 ticks, the 2 of the short one, and one retry of 2 ticks
pub one_retry : need (two 20) 2 8 ≡ 8
one_retry = refl

pub a_tick_less : need (two 20) 2 7 ≡ 8
a_tick_less = refl

pub alone : least_time (two 20) 1 ≡ Some 2
alone = refl

pub just_in_time : least_time (two 20) 2 ≡ Some 8
just_in_time = refl

pub both_served : unserved (two 8) ≡ None
both_served = refl

-- with a deadline of 7 one tick is wanting
pub one_tick_wanting : least_time (two 7) 2 ≡ None
one_tick_wanting = refl

pub second_unserved : unserved (two 7) ≡ Some 2
second_unserved = refl

-- three tasks on a queue of one number, whose attempts take 8 ticks
abbrev three : System
three = system Rm Queue (task 100 100 (Op 0 (Put 7) ∷ []) ∷ task 200 200 (Op 0 Take ∷ []) ∷ task 400 400 (Op 0 Take ∷ []) ∷ [])

pub first_of_three : least_time three 1 ≡ Some 8
first_of_three = refl

pub second_of_three : least_time three 2 ≡ Some 24
second_of_three = refl

pub third_of_three : least_time three 3 ≡ Some 40
third_of_three = refl

-- the least time may lie before the deadline although the deadline itself does not serve
abbrev early : System
early = system Rm Cell (task 5 5 (Work 2 ∷ []) ∷ task 12 6 (Work 3 ∷ []) ∷ [])

pub before_the_deadline : least_time early 2 ≡ Some 5
before_the_deadline = refl

pub not_at_the_deadline : need early 2 6 ≡ 7
not_at_the_deadline = refl

-- the task of a rank, where the file has the longer period first
pub rank_of_the_second : ranked_task (system Rm Cell (task 20 20 (Work 1 ∷ []) ∷ task 10 10 (Work 1 ∷ []) ∷ [])) 1 ≡ 1
rank_of_the_second = refl

pub more_work_than_time : unserved (system Rm Cell (task 2 2 (Work 3 ∷ []) ∷ [])) ≡ Some 1
more_work_than_time = refl

pub ceiling_of_none : ceiling 0 10 ≡ 0
ceiling_of_none = refl

pub ceiling_of_one : ceiling 1 10 ≡ 1
ceiling_of_one = refl

pub ceiling_of_a_period : ceiling 10 10 ≡ 1
ceiling_of_a_period = refl

pub ceiling_of_more : ceiling 11 10 ≡ 2
ceiling_of_more = refl

-- earliest deadlines first: two tasks whose shares are three quarters, and a span of 3 ticks in which 4 are due
abbrev crowded : System
crowded = system Edf Cell (task 4 2 (Work 2 ∷ []) ∷ task 8 3 (Work 2 ∷ []) ∷ [])

pub two_due : due_need crowded 2 ≡ 2
two_due = refl

pub four_due : due_need crowded 3 ≡ 4
four_due = refl

-- nobody can spoil the attempts of a task that is alone, and nobody those of the shorter deadline; each job of that one is
-- charged one attempt of the other
pub without_retry : due_need (system Edf Cell (task 4 4 (Op 0 (Add 1) ∷ []) ∷ [])) 4 ≡ 2
without_retry = refl

pub with_retry : due_need (system Edf Cell (task 4 4 (Op 0 (Add 1) ∷ []) ∷ task 8 8 (Op 0 (Add 1) ∷ []) ∷ [])) 4 ≡ 4
with_retry = refl

pub both_due : due_need (system Edf Cell (task 4 4 (Op 0 (Add 1) ∷ []) ∷ task 8 8 (Op 0 (Add 1) ∷ []) ∷ [])) 8 ≡ 10
both_due = refl

pub none_due : due_jobs 3 10 4 ≡ 0
none_due = refl

pub one_due : due_jobs 4 10 4 ≡ 1
one_due = refl
