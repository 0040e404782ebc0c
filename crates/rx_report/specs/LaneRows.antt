-- Worked lines of what tasks did on threads.
use Rattle.std.specs.Prelude.{ℕ, ◌≡◌, ◌+◌, ◌-◌, refl, List, [], ◌∷◌, codes, length, map, take, Option, Some}
use Rattle.std.specs.Fmt.{digits}
use Rattle.rx_seq.specs.declared.kinds.Kind.TheVariants.{Cell}
use Rattle.rx_seq.specs.declared.calls.Call.{Call}
use Rattle.rx_seq.specs.declared.calls.Call.TheVariants.{Get, Add}
use Rattle.rx_seq.specs.declared.replies.Reply.TheVariants.{Done}
use Rattle.rx_seq.specs.declared.entries.Entry.{Entry}
use Rattle.rx_set.specs.declared.items.Item.{Item}
use Rattle.rx_set.specs.declared.items.Item.TheVariants.{Work, Op}
use Rattle.rx_set.specs.declared.policies.Policy.TheVariants.{Rm}
use Rattle.rx_set.specs.Operations.{asked, operations_of, script_of}
use Rattle.rx_set.specs.System.{System, TaskRow, task_at}
use Rattle.rx_report.specs.Lines.{item_of}
use Rattle.rx_report.specs.LaneLines.{calls_line, entry_item, entry_job, entry_line, item_after, lanes_line, operations}

abbrev task : List ℕ → List Item → TaskRow
task name items = record { name = name; period = 100; deadline = 100; offset = 0; items = items }

-- a cell, a task whose jobs each make two operations, and one that makes none
abbrev called : System
called = record {
  policy = Rm;
  objects = record { name = codes "c"; part = record { kind = Cell; cap = 1 } } ∷ [];
  tasks = task (codes "a") (Work 3 ∷ Op 0 (Add 1) ∷ Work 2 ∷ Op 0 Get ∷ []) ∷ task (codes "b") (Work 1 ∷ []) ∷ [];
  demands = [];
}

abbrev made : ℕ → ℕ → Call → ℕ → ℕ → Entry
made caller index call value tag = record { caller = caller; index = index; object = 0; call = call; reply = Done value; tag = tag }

pub first_line : lanes_line 16 200 ≡ codes "lanes 16 jobs 200\n"
unfolding digits
first_line = refl

pub last_line : calls_line 409600 ≡ codes "total calls 409600\n"
unfolding digits
last_line = refl

pub each_job_makes_two : map (operations called) (0 ∷ 1 ∷ 2 ∷ []) ≡ 2 ∷ 1 ∷ 1 ∷ []
each_job_makes_two = refl

pub work_is_passed_over : map (λ number. item_after number (Work 3 ∷ Op 0 (Add 1) ∷ Work 2 ∷ Op 0 Get ∷ [])) (0 ∷ 1 ∷ 2 ∷ []) ≡ 2 ∷ 4 ∷ 5 ∷ []
work_is_passed_over = refl

-- the third entry of a task is of its second job
pub jobs_in_order : map (λ index. (entry_job called (made 0 index Get 1 1)).number) (0 ∷ 1 ∷ 2 ∷ 3 ∷ 4 ∷ 5 ∷ []) ≡ 1 ∷ 1 ∷ 1 ∷ 2 ∷ 2 ∷ 3 ∷ []
jobs_in_order = refl

pub items_in_order : map (λ index. entry_item called (made 0 index Get 1 1)) (1 ∷ 2 ∷ 3 ∷ 4 ∷ []) ≡ 2 ∷ 4 ∷ 2 ∷ 4 ∷ []
items_in_order = refl

-- the script of two jobs, and the item that the line of an entry with each of these calls names
pub calls_of_two_jobs : script_of called 2 0 ≡ asked 0 (Add 1) ∷ asked 0 Get ∷ asked 0 (Add 1) ∷ asked 0 Get ∷ []
calls_of_two_jobs = refl

abbrev of_two_jobs : List Entry
of_two_jobs = made 0 1 (Add 1) 1 1 ∷ made 0 2 Get 1 2 ∷ made 0 3 (Add 1) 2 3 ∷ made 0 4 Get 2 4 ∷ []

abbrev named : Entry → Option Item
named entry = item_of called (entry_job called entry) (entry_item called entry)

pub own_calls : map named of_two_jobs ≡ Some (Op 0 (Add 1)) ∷ Some (Op 0 Get) ∷ Some (Op 0 (Add 1)) ∷ Some (Op 0 Get) ∷ []
own_calls = refl

-- how many calls the script has before the job that the line names, and in that job before the item
abbrev before : Entry → ℕ
before entry =
    length (script_of called ((entry_job called entry).number - 1) entry.caller)
    + length (operations_of (take (entry_item called entry - 1) (task_at called entry.caller).items))

pub own_places : map before of_two_jobs ≡ 0 ∷ 1 ∷ 2 ∷ 3 ∷ []
own_places = refl

pub an_entry : entry_line called (made 0 3 (Add 1) 7 12) ≡ codes "a 2 2 add c 1 -> done 7 tag 12\n"
unfolding digits
an_entry = refl

pub another_entry : entry_line called (made 0 4 Get 7 13) ≡ codes "a 2 4 get c -> done 7 tag 13\n"
unfolding digits
another_entry = refl

-- no such task, and no such operation
pub unknown_entry : entry_line called (made 2 5 Get 7 13) ≡ codes " 5 1  -> done 7 tag 13\n"
unfolding digits
unknown_entry = refl

pub no_operation : entry_line called (made 1 5 Get 7 13) ≡ codes "b 5 2  -> done 7 tag 13\n"
unfolding digits
no_operation = refl
