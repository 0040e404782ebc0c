-- Worked rows of three tasks on one cell, one of which only works: scripts, which tasks a lane has and what it
-- makes, the entries of a caller, the lists in a history and in a merged order, and what a seat's entries and the
-- lists share on two lanes and on three.
use Rattle.std.specs.Prelude.{ℕ, ◌≡◌, refl, List, [], ◌∷◌, codes, map}
use Rattle.rx_seq.specs.declared.kinds.Kind.TheVariants.{Cell}
use Rattle.rx_seq.specs.declared.calls.Call.{Call}
use Rattle.rx_seq.specs.declared.calls.Call.TheVariants.{Get, Add}
use Rattle.rx_seq.specs.declared.replies.Reply.TheVariants.{Done}
use Rattle.rx_seq.specs.declared.entries.Entry.{Entry}
use Rattle.rx_set.specs.declared.policies.Policy.TheVariants.{Rm}
use Rattle.rx_set.specs.declared.items.Item.{Item}
use Rattle.rx_set.specs.declared.items.Item.TheVariants.{Work, Op}
use Rattle.rx_set.specs.System.{System, TaskRow}
use Rattle.rx_merge.specs.Merged.{merged}
use Rattle.rx_set.specs.Operations.{asked, script_of}
use Rattle.rx_lanes.specs.declared.answers.Answer.{Answer}
use Rattle.rx_lanes.specs.Scripts.{share, lane_script}
use Rattle.rx_lanes.specs.Lists.{plain}
use Rattle.rx_lanes.specs.Runs.{entries_by, lists_in, IsShared, IsKept}

abbrev task : List ℕ → List Item → TaskRow
task name items = record { name = name; period = 10; deadline = 10; offset = 0; items = items }

-- the first adds 1 and reads, the second only works, and the third adds 5
abbrev pub three : System
three = record {
  policy = Rm;
  objects = record { name = codes "c"; part = record { kind = Cell; cap = 1 } } ∷ [];
  tasks = task (codes "a") (Op 0 (Add 1) ∷ Work 2 ∷ Op 0 Get ∷ []) ∷ task (codes "b") (Work 1 ∷ []) ∷ task (codes "d") (Op 0 (Add 5) ∷ []) ∷ [];
  demands = [];
}

-- work is passed over, and each job has the operations once
pub two_jobs : script_of three 2 0 ≡ asked 0 (Add 1) ∷ asked 0 Get ∷ asked 0 (Add 1) ∷ asked 0 Get ∷ []
two_jobs = refl

pub work_alone : script_of three 2 1 ≡ []
work_alone = refl

pub no_jobs : script_of three 0 0 ≡ []
no_jobs = refl

pub no_such_task : script_of three 2 3 ≡ []
no_such_task = refl

-- two lanes have every other task, one has all, and the fourth of four has none
pub even_tasks : share 3 2 0 ≡ 0 ∷ 2 ∷ []
even_tasks = refl

pub odd_tasks : share 3 2 1 ≡ 1 ∷ []
odd_tasks = refl

pub all_tasks : share 3 1 0 ≡ 0 ∷ 1 ∷ 2 ∷ []
all_tasks = refl

pub no_tasks : share 3 4 3 ≡ []
no_tasks = refl

-- a lane makes the whole script of a task before the next one's
pub first_lane : lane_script three 1 2 0 ≡ asked 0 (Add 1) ∷ asked 0 Get ∷ asked 0 (Add 5) ∷ []
first_lane = refl

pub whole_scripts : lane_script three 2 2 0
    ≡ asked 0 (Add 1) ∷ asked 0 Get ∷ asked 0 (Add 1) ∷ asked 0 Get ∷ asked 0 (Add 5) ∷ asked 0 (Add 5) ∷ []
whole_scripts = refl

pub second_lane : lane_script three 1 2 1 ≡ []
second_lane = refl

abbrev pub made : ℕ → ℕ → Call → ℕ → ℕ → Entry
made caller index call value tag = record { caller = caller; index = index; object = 0; call = call; reply = Done value; tag = tag }

-- the third task's call comes between the two of the first
abbrev pub order : List Entry
order = made 0 2 Get 6 2 ∷ made 2 1 (Add 5) 6 2 ∷ made 0 1 (Add 1) 1 1 ∷ []

abbrev pub lists : List (List Entry)
lists = (made 0 1 (Add 1) 1 1 ∷ made 0 2 Get 6 2 ∷ []) ∷ [] ∷ (made 2 1 (Add 5) 6 2 ∷ []) ∷ []

pub oldest_first : entries_by 0 order ≡ made 0 1 (Add 1) 1 1 ∷ made 0 2 Get 6 2 ∷ []
oldest_first = refl

pub of_no_caller : entries_by 1 order ≡ []
of_no_caller = refl

-- a task that asks for nothing has an empty list
pub list_of_each_task : lists_in three order ≡ lists
list_of_each_task = refl

pub of_nothing : lists_in three [] ≡ [] ∷ [] ∷ [] ∷ []
of_nothing = refl

pub lists_of_merged : lists_in three (merged lists) ≡ lists
lists_of_merged = refl

-- two lanes: seat 0 makes the scripts of the first and of the third task, and its calls are numbered through
abbrev pub of_seats : List Entry
of_seats = made 0 3 (Add 5) 6 2 ∷ made 0 2 Get 1 1 ∷ made 0 1 (Add 1) 1 1 ∷ []

-- in the lists they have their tasks and their numbers in these
abbrev pub of_tasks : List (List Entry)
of_tasks = (made 0 1 (Add 1) 1 1 ∷ made 0 2 Get 1 1 ∷ []) ∷ [] ∷ (made 2 1 (Add 5) 6 2 ∷ []) ∷ []

pub no_caller : plain (made 2 1 (Add 5) 6 2) ≡ made 0 0 (Add 5) 6 2
no_caller = refl

pub seats_calls : map plain (entries_by 0 of_seats) ≡ made 0 0 (Add 1) 1 1 ∷ made 0 0 Get 1 1 ∷ made 0 0 (Add 5) 6 2 ∷ []
seats_calls = refl

pub first_lane_shared : IsShared three 2 of_tasks of_seats 0
first_lane_shared = refl

pub second_lane_shared : IsShared three 2 of_tasks of_seats 1
second_lane_shared = refl

-- three lanes have a task each, so here seats and tasks are the same
pub third_lane_shared : IsShared three 3 lists order 2
third_lane_shared = refl

abbrev told : ℕ → ℕ → Answer
told value tag = record { reply = Done value; tag = tag }

pub first_lane_kept : IsKept three 1 2 of_seats 0 (told 1 1 ∷ told 1 1 ∷ told 6 2 ∷ [])
first_lane_kept = record { calls = refl; told = refl }
