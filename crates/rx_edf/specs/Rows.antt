-- Worked rows of the test for earliest deadlines first: cycles, last times and verdicts.
use Rattle.std.specs.Prelude.{ℕ, ◌≡◌, refl, List, [], ◌∷◌, codes}
use Rattle.rx_seq.specs.declared.kinds.Kind.TheVariants.{Cell}
use Rattle.rx_seq.specs.declared.calls.Call.TheVariants.{Add, Get}
use Rattle.rx_set.specs.declared.policies.Policy.TheVariants.{Edf}
use Rattle.rx_set.specs.declared.items.Item.{Item}
use Rattle.rx_set.specs.declared.items.Item.TheVariants.{Work, Op}
use Rattle.rx_set.specs.System.{System, TaskRow}
use Rattle.rx_edf.specs.declared.verdicts.EdfVerdict.TheVariants.{Yes, No}
use Rattle.rx_edf.specs.ChargedTasks.{charged_task_of, charged_tasks_of, common, cycle_of, work_of, weighted_shortening_of, points_up_to}
use Rattle.rx_edf.specs.Verdicts.{last_point, verdict_of}

abbrev task : ℕ → ℕ → List Item → TaskRow
task period deadline items = record { name = codes "t"; period = period; deadline = deadline; offset = 0; items = items }

abbrev system : List TaskRow → System
system tasks = record {
  policy = Edf;
  objects = record { name = codes "c"; part = record { kind = Cell; cap = 1 } } ∷ [];
  tasks = tasks;
  demands = [];
}

-- the least common multiple of two numbers, also where one divides the other
pub multiple_of_both : common 12 20 ≡ 60
multiple_of_both = refl

pub multiple_of_one : common 12 4 ≡ 12
multiple_of_one = refl

-- two tasks whose utilization is three quarters: in 3 ticks 4 are due
abbrev crowded : System
crowded = system (task 4 2 (Work 2 ∷ []) ∷ task 8 3 (Work 2 ∷ []) ∷ [])

pub cycle_of_crowded : cycle_of (charged_tasks_of crowded) ≡ 8
cycle_of_crowded = refl

pub work_of_crowded : work_of (charged_tasks_of crowded) 8 ≡ 6
work_of_crowded = refl

pub weighted_shortening_of_crowded : weighted_shortening_of (charged_tasks_of crowded) 8 ≡ 18
weighted_shortening_of_crowded = refl

pub last_of_crowded : last_point (charged_tasks_of crowded) ≡ 8
last_of_crowded = refl

pub points_of_crowded : points_up_to (charged_tasks_of crowded) 8 ≡ 3
points_of_crowded = refl

pub crowded_fails : verdict_of crowded ≡ No 3 4
crowded_fails = refl

-- two tasks that add to one cell take all of 4 ticks: neither can preempt the other, since their deadlines are equal
pub both_add : verdict_of (system (task 4 4 (Op 0 (Add 1) ∷ []) ∷ task 4 4 (Op 0 (Add 1) ∷ []) ∷ [])) ≡ Yes
both_add = refl

-- the first takes all of 4 ticks with the attempt that it can cost one of a longer deadline, which needs 2 ticks more
pub spoils_another : verdict_of (system (task 4 4 (Op 0 (Add 1) ∷ []) ∷ task 20 20 (Op 0 (Add 1) ∷ []) ∷ [])) ≡ No 20 22
spoils_another = refl

-- it costs nothing where the other only works, or where both only read
pub spoils_no_work : verdict_of (system (task 4 4 (Work 1 ∷ Op 0 (Add 1) ∷ []) ∷ task 20 20 (Work 5 ∷ []) ∷ [])) ≡ Yes
spoils_no_work = refl

pub both_read : verdict_of (system (task 4 4 (Work 1 ∷ Op 0 Get ∷ []) ∷ task 20 20 (Work 3 ∷ Op 0 Get ∷ []) ∷ [])) ≡ Yes
both_read = refl

-- nor does the second cost anything: it does not preempt the first
pub longest_deadline : charged_task_of (system (task 4 4 (Op 0 (Add 1) ∷ []) ∷ task 20 20 (Op 0 (Add 1) ∷ []) ∷ [])) 1 ≡ record { period = 20; deadline = 20; cost = 2 }
longest_deadline = refl

-- a task that adds, and one that works and adds: no time up to 4 has to fit anything
abbrev roomy : System
roomy = system (task 20 6 (Op 0 (Add 1) ∷ []) ∷ task 20 20 (Work 2 ∷ Op 0 (Add 1) ∷ []) ∷ [])

pub weighted_shortening_of_roomy : weighted_shortening_of (charged_tasks_of roomy) 20 ≡ 56
weighted_shortening_of_roomy = refl

pub last_of_roomy : last_point (charged_tasks_of roomy) ≡ 4
last_of_roomy = refl

pub points_of_roomy : points_up_to (charged_tasks_of roomy) 4 ≡ 0
points_of_roomy = refl

pub roomy_fits : verdict_of roomy ≡ Yes
roomy_fits = refl

-- no tick is spare, so that the whole cycle is looked at
pub nothing_spare : last_point (charged_tasks_of (system (task 2 1 (Work 1 ∷ []) ∷ task 4 4 (Work 2 ∷ []) ∷ []))) ≡ 4
nothing_spare = refl

pub just_fits : verdict_of (system (task 2 1 (Work 1 ∷ []) ∷ task 4 4 (Work 2 ∷ []) ∷ [])) ≡ Yes
just_fits = refl
