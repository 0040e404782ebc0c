-- The lines of a report, byte by byte. Words are separated by one space, numbers are decimal, and each line ends with its line feed.
use Rattle.std.specs.Prelude.{ℕ, ◌-◌, List, [], ◌++◌, get_or, slice_get, take, codes, decimal, Option, Some, None}
use Rattle.std.specs.List.{flat_map}
use Rattle.rx_seq.specs.declared.kinds.Kind.{Kind}
use Rattle.rx_seq.specs.declared.kinds.Kind.TheVariants.{Cell, Queue, Registers, List as Ordered}
use Rattle.rx_seq.specs.declared.calls.Row.{Row}
use Rattle.rx_seq.specs.declared.calls.Call.{Call}
use Rattle.rx_seq.specs.declared.calls.Call.TheVariants.{Get, Set, Add, Swap, Put, Take, Insert, Remove, Has, Read, Shift, Multi}
use Rattle.rx_seq.specs.declared.replies.Reply.{Reply as Answer}
use Rattle.rx_seq.specs.declared.replies.Reply.TheVariants.{Done, Over, Differs, Full, Empty, Added, Present, Removed, Absent, Yes, No, Short}
use Rattle.rx_seq.specs.History.{no_part}
use Rattle.rx_set.specs.declared.items.Item.{Item}
use Rattle.rx_set.specs.declared.items.Item.TheVariants.{Work, Op}
use Rattle.rx_set.specs.declared.jobs.Job.{Job}
use Rattle.rx_set.specs.System.{System, ObjectRow, task_of}
use Rattle.rx_file.specs.declared.faults.Section.{Section}
use Rattle.rx_file.specs.declared.faults.Section.TheVariants as section
use Rattle.rx_file.specs.declared.faults.Label.{Label}
use Rattle.rx_file.specs.declared.faults.Label.TheVariants as label
use Rattle.rx_file.specs.declared.faults.FileFault.{FileFault}
use Rattle.rx_file.specs.declared.faults.FileFault.TheVariants as fault
use Rattle.rx_ledger.specs.declared.events.Event.{Event}
use Rattle.rx_ledger.specs.declared.events.Event.TheVariants.{Miss, Release, Preempt, Reply, Retry, Finish}
use Rattle.rx_ledger.specs.declared.totals.Totals.{Totals}

-- a space and a number
abbrev pub spaced : ℕ → List ℕ
spaced n = codes " " ++ decimal n

-- the name of a job's task, which is empty where there is no such task, and the job's number
abbrev pub job_text : System → Job → List ℕ
job_text system job = (task_of system job).name ++ spaced job.number

-- an object that stands where there is none
abbrev pub no_object : ObjectRow
no_object = record { name = []; part = no_part }

-- an object by its number from 0
abbrev pub object_at : System → ℕ → ObjectRow
object_at system object = get_or system.objects object no_object

-- a register's number, and its old and its new value
abbrev pub row_text : Row → List ℕ
row_text row = spaced row.i ++ spaced row.old ++ spaced row.new

-- a call on the object of this name. A transaction shows its rows, and not how many they are
abbrev pub call_text : List ℕ → Call → List ℕ
call_text name Get = codes "get " ++ name
call_text name (Set v) = codes "set " ++ name ++ spaced v
call_text name (Add v) = codes "add " ++ name ++ spaced v
call_text name (Swap old new) = codes "swap " ++ name ++ spaced old ++ spaced new
call_text name (Put v) = codes "put " ++ name ++ spaced v
call_text name Take = codes "take " ++ name
call_text name (Insert k) = codes "insert " ++ name ++ spaced k
call_text name (Remove k) = codes "remove " ++ name ++ spaced k
call_text name (Has k) = codes "has " ++ name ++ spaced k
call_text name (Read i) = codes "read " ++ name ++ spaced i
call_text name (Shift from to n) = codes "shift " ++ name ++ spaced from ++ spaced to ++ spaced n
call_text name (Multi count rows) = codes "multi " ++ name ++ flat_map row_text (take count rows)

-- the item of this number, from 1, in the body of a job
abbrev pub item_of : System → Job → ℕ → Option Item
item_of system job item = slice_get (task_of system job).items (item - 1)

-- what an item asks for: a call on an object, or ticks of work
abbrev pub item_text : System → Option Item → List ℕ
item_text system (Some (Op object call)) = call_text (object_at system object).name call
item_text system (Some (Work ticks)) = codes "work " ++ decimal ticks
item_text system None = []

-- the name of the object that an item calls, which is empty where it calls none
abbrev pub object_text : System → Option Item → List ℕ
object_text system (Some (Op object call)) = (object_at system object).name
object_text system (Some (Work ticks)) = []
object_text system None = []

-- what a call answers
abbrev pub reply_text : Answer → List ℕ
reply_text (Done v) = codes "done" ++ spaced v
reply_text Over = codes "over"
reply_text (Differs v) = codes "differs" ++ spaced v
reply_text Full = codes "full"
reply_text Empty = codes "empty"
reply_text Added = codes "added"
reply_text Present = codes "present"
reply_text Removed = codes "removed"
reply_text Absent = codes "absent"
reply_text Yes = codes "yes"
reply_text No = codes "no"
reply_text (Short v) = codes "short" ++ spaced v

-- a time, what happens then, and the job that it happens to
abbrev pub told : System → ℕ → List ℕ → Job → List ℕ
told system at what job = decimal at ++ what ++ job_text system job

-- the same, and the number of the job's item that it is about
abbrev pub told_item : System → ℕ → List ℕ → Job → ℕ → List ℕ
told_item system at what job item = told system at what job ++ spaced item ++ codes " "

-- what an event tells
abbrev pub event_text : System → Event → List ℕ
event_text system (Miss at job) = told system at (codes " miss ") job
event_text system (Release at job) = told system at (codes " release ") job
event_text system (Preempt at job by) = told system at (codes " preempt ") job ++ codes " by " ++ job_text system by
event_text system (Reply at first job item reply tag) =
    told_item system at (codes " reply ") job item ++ item_text system (item_of system job item)
    ++ codes " -> " ++ reply_text reply ++ codes " tag" ++ spaced tag
event_text system (Retry at first job item expected found) =
    told_item system at (codes " retry ") job item ++ object_text system (item_of system job item)
    ++ codes " tag" ++ spaced expected ++ codes " now" ++ spaced found
event_text system (Finish at job) = told system at (codes " finish ") job

-- the line of an event
abbrev pub event_line : System → Event → List ℕ
event_line system event = event_text system event ++ codes "\n"

-- the word of a kind of object
abbrev pub kind_word : Kind → List ℕ
kind_word Cell = codes "cell"
kind_word Queue = codes "queue"
kind_word Ordered = codes "list"
kind_word Registers = codes "registers"

-- the line of an object: its name and its kind, its tag, and each number of its state
abbrev pub object_line : System → ℕ → ℕ → List ℕ → List ℕ
object_line system object tag state =
    codes "object " ++ (object_at system object).name ++ codes " " ++ kind_word (object_at system object).part.kind
    ++ codes " tag" ++ spaced tag ++ codes " state" ++ flat_map spaced state ++ codes "\n"

-- the line of the totals
abbrev pub total_line : Totals → List ℕ
total_line totals =
    codes "total ticks" ++ spaced totals.ticks ++ codes " idle" ++ spaced totals.idle ++ codes " released" ++ spaced totals.released
    ++ codes " finished" ++ spaced totals.finished ++ codes " replies" ++ spaced totals.replies ++ codes " retries" ++ spaced totals.retries
    ++ codes " preempted" ++ spaced totals.preempted ++ codes " missed" ++ spaced totals.missed ++ codes "\n"

-- the word of a section of a task file
abbrev pub section_word : Section → List ℕ
section_word section.Top = codes "top"
section_word section.Object = codes "object"
section_word section.Task = codes "task"
section_word section.Demand = codes "demand"

-- the word of what in a row a fault is about
abbrev pub label_word : Label → List ℕ
label_word label.Policy = codes "policy"
label_word label.Object = codes "object"
label_word label.Task = codes "task"
label_word label.Demand = codes "demand"
label_word label.Whole = codes "whole"
label_word label.Name = codes "name"
label_word label.Kind = codes "kind"
label_word label.Capacity = codes "capacity"
label_word label.Period = codes "period"
label_word label.Deadline = codes "deadline"
label_word label.Offset = codes "offset"
label_word label.Body = codes "body"
label_word label.Job = codes "job"
label_word label.Item = codes "item"
label_word label.Ticks = codes "ticks"
label_word label.Other = codes "other"

-- what is wrong, with the section and the number of its row
abbrev pub row_fault : List ℕ → Section → ℕ → List ℕ
row_fault what part row = what ++ section_word part ++ spaced row

-- the same, and what in the row is wrong
abbrev pub key_fault : List ℕ → Section → ℕ → Label → List ℕ
key_fault what part row key = row_fault what part row ++ codes " " ++ label_word key

-- what is wrong, with the numbers of a task and of its item
abbrev pub item_fault : List ℕ → ℕ → ℕ → List ℕ
item_fault what task item = what ++ spaced task ++ spaced item

-- What a fault tells: `not toml`, or `set`, the fault's number and word, and where it is. Want of memory is no fault of
-- a file, and has no text
abbrev pub fault_text : FileFault → List ℕ
fault_text fault.NotToml = codes "not toml"
fault_text (fault.Field part row key) = key_fault (codes "set 2 field ") part row key
fault_text (fault.Name part row) = row_fault (codes "set 3 name ") part row
fault_text (fault.Repeat part row) = row_fault (codes "set 4 repeat ") part row
fault_text (fault.Range part row key) = key_fault (codes "set 5 range ") part row key
fault_text (fault.Item task item) = item_fault (codes "set 6 item") task item
fault_text (fault.Unknown task item) = item_fault (codes "set 7 unknown") task item
fault_text (fault.Misfit task item) = item_fault (codes "set 8 misfit") task item
fault_text (fault.TooMany part count) = row_fault (codes "set 9 many ") part count
fault_text fault.NoMemory = []

-- the line of a fault
abbrev pub fault_line : FileFault → List ℕ
fault_line fault = fault_text fault ++ codes "\n"
