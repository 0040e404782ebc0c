-- The lines of what the tasks did on threads, byte by byte.
use Rattle.std.specs.Prelude.{ℕ, zero, suc, ◌+◌, ◌-◌, ◌/◌, ◌%◌, max, List, [], ◌∷◌, ◌++◌, codes, length}
use Rattle.rx_seq.specs.declared.entries.Entry.{Entry}
use Rattle.rx_set.specs.declared.items.Item.{Item}
use Rattle.rx_set.specs.declared.items.Item.TheVariants.{Work, Op}
use Rattle.rx_set.specs.declared.jobs.Job.{Job}
use Rattle.rx_set.specs.Operations.{operations_of}
use Rattle.rx_set.specs.System.{System, task_at}
use Rattle.rx_report.specs.Lines.{item_of, item_text, job_text, reply_text, spaced}

-- the first line: how many lanes there were, and how many jobs each task made
abbrev pub lanes_line : ℕ → ℕ → List ℕ
lanes_line workers jobs = codes "lanes" ++ spaced workers ++ codes " jobs" ++ spaced jobs ++ codes "\n"

-- the number, from 1, of the item that is the operation of this number, from 0
abbrev pub item_after : ℕ → List Item → ℕ
item_after number [] = 1
item_after number (Work ticks ∷ items) = suc (item_after number items)
item_after zero (Op object call ∷ items) = 1
item_after (suc number) (Op object call ∷ items) = suc (item_after number items)

-- how many operations a job of a task makes; a body without any counts as one that has one
abbrev pub operations : System → ℕ → ℕ
operations system task = max (length (operations_of (task_at system task).items)) 1

-- The job that made an entry, and the number of its item: each job makes the operations of its body in order, and the entry's index counts all those of its task from 1
abbrev pub entry_job : System → Entry → Job
entry_job system entry = record { task = entry.caller; number = (entry.index - 1) / operations system entry.caller + 1 }

abbrev pub entry_item : System → Entry → ℕ
entry_item system entry = item_after ((entry.index - 1) % operations system entry.caller) (task_at system entry.caller).items

-- what an entry tells: the task and the number of the job, the item's number and what it asks for, the reply, and the object's tag after it
abbrev pub entry_text : System → Entry → List ℕ
entry_text system entry =
    let job = entry_job system entry in
    let item = entry_item system entry in
    job_text system job ++ spaced item ++ codes " " ++ item_text system (item_of system job item)
    ++ codes " -> " ++ reply_text entry.reply ++ codes " tag" ++ spaced entry.tag

-- the line of an entry
abbrev pub entry_line : System → Entry → List ℕ
entry_line system entry = entry_text system entry ++ codes "\n"

-- the last line: how many calls were made in all
abbrev pub calls_line : ℕ → List ℕ
calls_line count = codes "total calls" ++ spaced count ++ codes "\n"
