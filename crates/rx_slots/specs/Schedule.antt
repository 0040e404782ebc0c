-- The schedule of one processor. Slots are kept newest first, so slot n is the one with n slots behind it.
use Rattle.std.specs.Prelude.{ℕ, zero, suc, ◌+◌, ◌==◌, ◌&&◌, ◌||◌, nat_lt, nat_le, not, Bool, false, if◌then◌else◌, List, [], ◌∷◌, ◌++◌, length, fold, filter, Option, Some, None}
use Rattle.std.specs.List.{flat_map}
use Rattle.rx_seq.specs.declared.entries.Entry.{Entry}
use Rattle.rx_seq.specs.History.{is_loud, entry_after}
use Rattle.rx_set.specs.declared.items.Item.{Item}
use Rattle.rx_set.specs.declared.items.Item.TheVariants.{Work, Op}
use Rattle.rx_set.specs.declared.jobs.Job.{Job}
use Rattle.rx_set.specs.Operations.{Asked, asked}
use Rattle.rx_set.specs.System.{System, task_of, parts_of, item_at, attempt_cost, numbers, release, key, is_below}

-- A slot is idle, or one tick of a job. The last tick of an attempt on an object decides it: it is lost, or it wins and makes an entry
pub data Slot : Type 0 where
  Idle : Slot
  Busy : Job → Slot
  Decide : Job → ℕ → Option Entry → Slot

-- the job of a slot, if it has one
abbrev pub job_in : Slot → Option Job
job_in Idle = None
job_in (Busy job) = Some job
job_in (Decide job object outcome) = Some job

-- two jobs are one: their tasks and their numbers are equal
abbrev pub same : Job → Job → Bool
same a b = (a.task == b.task) && (a.number == b.number)

-- How far its slots bring a job: so many items are complete. The work or the attempt in hand has had so many ticks, the first of them in this slot. With no tick in hand the slot means nothing
pub record Progress : Type 0 where
  pub complete : ℕ
  pub made : ℕ
  pub first : ℕ

-- the progress of a job that has had no slot
abbrev pub start : Progress
start = record { complete = 0; made = 0; first = 0 }

-- the next item is in hand; a lost attempt begins anew; the item has had one more tick
abbrev pub completed : Progress → Progress
completed p = record { complete = p.complete + 1; made = 0; first = 0 }

abbrev pub lost : Progress → Progress
lost p = record { complete = p.complete; made = 0; first = 0 }

abbrev pub ticked : ℕ → Progress → Progress
ticked n p = record { complete = p.complete; made = p.made + 1; first = if p.made == 0 then n else p.first }

-- whether the next tick is the last of a work item
abbrev pub ends_work : Option Item → ℕ → Bool
ends_work (Some (Work ticks)) made = made + 1 == ticks
ends_work (Some (Op object call)) made = false
ends_work None made = false

-- the progress of a job after slot n: a tick of work brings the item on, or completes it with its last tick; a lost
-- attempt begins anew; a won one completes the item; the slots of other jobs change nothing
abbrev pub after : System → Job → ℕ → Slot → Progress → Progress
after system job n Idle p = p
after system job n (Busy other) p =
    if same other job then (if ends_work (item_at system job p.complete) p.made then completed p else ticked n p) else p
after system job n (Decide other object None) p = if same other job then lost p else p
after system job n (Decide other object (Some entry)) p = if same other job then completed p else p

-- how far its slots bring a job, from none on
abbrev pub progress : System → Job → List Slot → Progress
progress system job [] = start
progress system job (slot ∷ past) = after system job (length past) slot (progress system job past)

-- a job is finished if all its items are complete
abbrev pub is_finished : System → List Slot → Job → Bool
is_finished system past job = nat_le (length (task_of system job).items) (progress system job past).complete

-- a job is pending, at the slot that comes after the past, if it is released and not finished
abbrev pub is_pending : System → List Slot → Job → Bool
is_pending system past job = nat_le (release system job) (length past) && not (is_finished system past job)

-- the jobs 1 to n of a task
abbrev pub jobs_of : ℕ → ℕ → List Job
jobs_of task zero = []
jobs_of task (suc n) = jobs_of task n ++ record { task = task; number = suc n } ∷ []

-- the jobs that can be released at n or before: periods are at least 1, so no job with a number above n + 1 is
abbrev pub all_jobs : System → ℕ → List Job
all_jobs system n = flat_map (λ task. jobs_of task (n + 1)) (numbers (length system.tasks))

-- the job of lower key, of the best so far, if there is one, and another
abbrev pub sooner : System → Option Job → Job → Option Job
sooner system None job = Some job
sooner system (Some best) job = if is_below (key system job) (key system best) then Some job else Some best

-- the job of least key
abbrev pub least : System → List Job → Option Job
least system jobs = fold (sooner system) None jobs

-- the pending job of least key
abbrev pub chosen : System → List Slot → Option Job
chosen system past = least system (filter (is_pending system past) (all_jobs system (length past)))

-- the entries of the won attempts, newest first
abbrev pub noted : Slot → List Entry → List Entry
noted Idle before = before
noted (Busy job) before = before
noted (Decide job object None) before = before
noted (Decide job object (Some entry)) before = entry ∷ before

abbrev pub history : List Slot → List Entry
history [] = []
history (slot ∷ past) = noted slot (history past)

-- an attempt on the object won in this slot, with an entry that raises its tag
abbrev pub wins_on : ℕ → Slot → Bool
wins_on object Idle = false
wins_on object (Busy job) = false
wins_on object (Decide job other None) = false
wins_on object (Decide job other (Some entry)) = (object == entry.object) && is_loud entry

-- one won so in a slot after this one
abbrev pub won_after : ℕ → ℕ → List Slot → Bool
won_after object first [] = false
won_after object first (slot ∷ past) = (wins_on object slot && nat_lt first (length past)) || won_after object first past

-- the operation whose attempt ends with the next tick, if one does
abbrev pub decides : System → Option Item → ℕ → Option Asked
decides system (Some (Op object call)) made =
    if made + 1 == attempt_cost system object then Some (asked object call) else None
decides system (Some (Work ticks)) made = None
decides system None made = None

-- a tick of a job, which decides the attempt on an operation if it is its last one: it wins where none on its object
-- won and raised the tag since its first slot, and it is lost where one did
abbrev pub tick_in : System → List Slot → Job → Progress → Option Asked → Slot
tick_in system past job p None = Busy job
tick_in system past job p (Some operation) =
    Decide job operation.object
    (if won_after operation.object p.first past then None
    else Some (entry_after (parts_of system) (history past) job.task operation.object operation.call))

abbrev pub tick_of : System → List Slot → Job → Progress → Slot
tick_of system past job p = tick_in system past job p (decides system (item_at system job p.complete) p.made)

-- a tick of the job that has the slot, and an idle slot where there is none
abbrev pub slot_of : System → List Slot → Option Job → Slot
slot_of system past None = Idle
slot_of system past (Some job) = tick_of system past job (progress system job past)

-- the slot that comes after the past: idle where no job is pending, and else a tick of the chosen job
abbrev pub next_slot : System → List Slot → Slot
next_slot system past = slot_of system past (chosen system past)

-- the slots with the next one
abbrev pub with_next : System → List Slot → List Slot
with_next system past = next_slot system past ∷ past

-- the first n slots, newest first
abbrev pub slots : System → ℕ → List Slot
slots system zero = []
slots system (suc n) = with_next system (slots system n)

-- slot n
abbrev pub slot_at : System → ℕ → Slot
slot_at system n = next_slot system (slots system n)
