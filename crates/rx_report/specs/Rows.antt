-- Worked lines, also of each fault.
use Rattle.std.specs.Prelude.{ℕ, ◌≡◌, refl, List, [], ◌∷◌, map, codes}
use Rattle.std.specs.Fmt.{digits}
use Rattle.rx_seq.specs.declared.kinds.Kind.{Kind}
use Rattle.rx_seq.specs.declared.kinds.Kind.TheVariants.{Cell, Queue, Registers, List as Ordered}
use Rattle.rx_seq.specs.declared.calls.Row.{Row}
use Rattle.rx_seq.specs.declared.calls.Call.TheVariants.{Get, Set, Add, Swap, Put, Take, Insert, Remove, Has, Read, Shift, Multi}
use Rattle.rx_seq.specs.declared.replies.Reply.TheVariants.{Done, Over, Differs, Full, Empty, Added, Present, Removed, Absent, Yes, No, Short}
use Rattle.rx_set.specs.declared.policies.Policy.TheVariants.{Rm}
use Rattle.rx_set.specs.declared.items.Item.{Item}
use Rattle.rx_set.specs.declared.items.Item.TheVariants.{Work, Op}
use Rattle.rx_set.specs.declared.jobs.Job.{Job}
use Rattle.rx_set.specs.System.{System, ObjectRow, TaskRow}
use Rattle.rx_file.specs.declared.faults.Section.TheVariants as section
use Rattle.rx_file.specs.declared.faults.Label.TheVariants as label
use Rattle.rx_file.specs.declared.faults.FileFault.TheVariants as fault
use Rattle.rx_ledger.specs.declared.events.Event.TheVariants.{Miss, Reply, Retry}
use Rattle.rx_report.specs.Lines.{call_text, event_line, fault_line, kind_word, label_word, object_line, reply_text}

abbrev task : List ℕ → ℕ → ℕ → List Item → TaskRow
task name period offset items = record { name = name; period = period; deadline = period; offset = offset; items = items }

abbrev object : List ℕ → Kind → ℕ → ObjectRow
object name kind cap = record { name = name; part = record { kind = kind; cap = cap } }

abbrev job : ℕ → ℕ → Job
job task number = record { task = task; number = number }

abbrev change : ℕ → ℕ → ℕ → Row
change i old new = record { i = i; old = old; new = new }

-- an object of each kind, three calls and an item of work
abbrev called : System
called = record {
  policy = Rm;
  objects = object (codes "q") Queue 4 ∷ object (codes "r") Registers 4 ∷ object (codes "c") Cell 1 ∷ object (codes "l") Ordered 8 ∷ [];
  tasks = task (codes "t") 100 0 (Op 0 Take ∷ Op 1 (Multi 2 (change 0 1 5 ∷ change 3 0 70 ∷ change 0 0 0 ∷ change 0 0 0 ∷ [])) ∷ Op 1 (Shift 2 1 10) ∷ Work 8 ∷ []) ∷ [];
  demands = [];
}

-- each kind of call, its object first
pub call_texts : map (call_text (codes "o"))
    (Get ∷ Set 1 ∷ Add 2 ∷ Swap 3 16777215 ∷ Put 5 ∷ Take ∷ Insert 6 ∷ Remove 7 ∷ Has 8 ∷ Read 9 ∷ Shift 1 2 30
    ∷ Multi 4 (change 3 0 1 ∷ change 2 4 5 ∷ change 1 6 7 ∷ change 0 8 9 ∷ []) ∷ []) ≡
    codes "get o" ∷ codes "set o 1" ∷ codes "add o 2" ∷ codes "swap o 3 16777215" ∷ codes "put o 5" ∷ codes "take o" ∷ codes "insert o 6"
    ∷ codes "remove o 7" ∷ codes "has o 8" ∷ codes "read o 9" ∷ codes "shift o 1 2 30" ∷ codes "multi o 3 0 1 2 4 5 1 6 7 0 8 9" ∷ []
unfolding digits
call_texts = refl

pub kind_words : map kind_word (Cell ∷ Queue ∷ Ordered ∷ Registers ∷ []) ≡ codes "cell" ∷ codes "queue" ∷ codes "list" ∷ codes "registers" ∷ []
kind_words = refl

pub reply_texts : map reply_text (Done 16777215 ∷ Over ∷ Differs 0 ∷ Full ∷ Empty ∷ Added ∷ Present ∷ Removed ∷ Absent ∷ Yes ∷ No ∷ Short 0 ∷ []) ≡
    codes "done 16777215" ∷ codes "over" ∷ codes "differs 0" ∷ codes "full" ∷ codes "empty" ∷ codes "added" ∷ codes "present" ∷ codes "removed"
    ∷ codes "absent" ∷ codes "yes" ∷ codes "no" ∷ codes "short 0" ∷ []
unfolding digits
reply_texts = refl

pub line_empty : event_line called (Reply 13 0 (job 0 1) 1 Empty 1) ≡ codes "13 reply t 1 1 take q -> empty tag 1\n"
unfolding digits
line_empty = refl

pub line_multi : event_line called (Reply 27 14 (job 0 1) 2 (Done 2) 7) ≡ codes "27 reply t 1 2 multi r 0 1 5 3 0 70 -> done 2 tag 7\n"
unfolding digits
line_multi = refl

pub line_shift : event_line called (Reply 41 28 (job 0 1) 3 (Short 0) 8) ≡ codes "41 reply t 1 3 shift r 2 1 10 -> short 0 tag 8\n"
unfolding digits
line_shift = refl

pub line_retry : event_line called (Retry 41 28 (job 0 12) 3 8 10) ≡ codes "41 retry t 12 3 r tag 8 now 10\n"
unfolding digits
line_retry = refl

-- an item of work stands in the place of a call, and nothing stands for an item or a task that is not there
pub line_work : event_line called (Reply 5 1 (job 0 1) 4 (Done 0) 1) ≡ codes "5 reply t 1 4 work 8 -> done 0 tag 1\n"
unfolding digits
line_work = refl

pub line_no_item : event_line called (Retry 5 1 (job 0 1) 5 0 1) ≡ codes "5 retry t 1 5  tag 0 now 1\n"
unfolding digits
line_no_item = refl

pub line_no_task : event_line called (Miss 5 (job 1 1)) ≡ codes "5 miss  1\n"
unfolding digits
line_no_task = refl

pub line_empty_queue : object_line called 0 4 [] ≡ codes "object q queue tag 4 state\n"
unfolding digits
line_empty_queue = refl

pub line_registers : object_line called 1 8 (6 ∷ 0 ∷ 0 ∷ 70 ∷ []) ≡ codes "object r registers tag 8 state 6 0 0 70\n"
unfolding digits
line_registers = refl

pub line_cell : object_line called 2 1099511627775 (16777215 ∷ []) ≡ codes "object c cell tag 1099511627775 state 16777215\n"
unfolding digits
line_cell = refl

pub line_list : object_line called 3 5 (1 ∷ 8 ∷ 4294967295 ∷ []) ≡ codes "object l list tag 5 state 1 8 4294967295\n"
unfolding digits
line_list = refl

pub label_words :
    map label_word (
    label.Policy ∷ label.Object ∷ label.Task ∷ label.Demand ∷ label.Whole ∷ label.Name ∷ label.Kind ∷ label.Capacity
    ∷ label.Period ∷ label.Deadline ∷ label.Offset ∷ label.Body ∷ label.Job ∷ label.Item ∷ label.Ticks ∷ label.Other ∷ []
    ) ≡
    codes "policy" ∷ codes "object" ∷ codes "task" ∷ codes "demand" ∷ codes "whole" ∷ codes "name" ∷ codes "kind" ∷ codes "capacity"
    ∷ codes "period" ∷ codes "deadline" ∷ codes "offset" ∷ codes "body" ∷ codes "job" ∷ codes "item" ∷ codes "ticks" ∷ codes "other" ∷ []
label_words = refl

-- each fault of a file, and each section
pub fault_lines :
    map fault_line (
    fault.NotToml ∷ fault.Field section.Top 0 label.Task ∷ fault.Name section.Object 12 ∷ fault.Repeat section.Demand 2
    ∷ fault.Range section.Task 1 label.Deadline ∷ fault.Item 1 64 ∷ fault.Unknown 32 1 ∷ fault.Misfit 2 3 ∷ fault.TooMany section.Object 17 ∷ []
    ) ≡
    codes "not toml\n" ∷ codes "set 2 field top 0 task\n" ∷ codes "set 3 name object 12\n" ∷ codes "set 4 repeat demand 2\n"
    ∷ codes "set 5 range task 1 deadline\n" ∷ codes "set 6 item 1 64\n" ∷ codes "set 7 unknown 32 1\n" ∷ codes "set 8 misfit 2 3\n" ∷ codes "set 9 many object 17\n" ∷ []
unfolding digits
fault_lines = refl
