-- The events of a schedule, slot by slot.
use Rattle.std.specs.Prelude.{ℕ, ◌+◌, ◌==◌, ◌&&◌, nat_lt, not, Bool, if◌then◌else◌, List, [], ◌∷◌, ◌++◌, length, filter, map, Option, Some, None}
use Rattle.rx_set.specs.declared.jobs.Job.{Job}
use Rattle.rx_set.specs.System.{System, release, due}
use Rattle.rx_ledger.specs.declared.events.Event.{Event}
use Rattle.rx_ledger.specs.declared.events.Event.TheVariants.{Miss, Release, Preempt, Reply, Retry, Finish}
use Rattle.rx_slots.specs.Schedule.{Slot, Idle, Busy, Decide, job_in, same, progress, is_finished, all_jobs, wins_on, slots}

-- how many attempts on the object won so far with an entry that raises its tag: so many is its tag
abbrev pub wins : ℕ → List Slot → ℕ
wins object [] = 0
wins object (slot ∷ past) = (if wins_on object slot then 1 else 0) + wins object past

-- how many did before slot n, which is its tag at the beginning of that slot
abbrev pub wins_below : ℕ → ℕ → List Slot → ℕ
wins_below object n [] = 0
wins_below object n (slot ∷ past) = (if wins_on object slot && nat_lt (length past) n then 1 else 0) + wins_below object n past

-- the jobs of all tasks that can be released at n or before, and pass a test
abbrev pub jobs_where : System → ℕ → (Job → Bool) → List Job
jobs_where system n test = filter test (all_jobs system n)

-- a job is due now, and the slots so far do not finish it
abbrev pub is_missed : System → List Slot → Job → Bool
is_missed system past job = (due system job == length past) && not (is_finished system past job)

-- the jobs that are due now and that their slots so far do not finish, in file order of their tasks
abbrev pub misses : System → List Slot → List Event
misses system past = map (Miss (length past)) (jobs_where system (length past) (is_missed system past))

-- a job is released at this time
abbrev pub is_released_at : System → ℕ → Job → Bool
is_released_at system n job = release system job == n

-- the jobs that are released at this time, in file order of their tasks
abbrev pub releases : System → ℕ → List Event
releases system n = map (Release n) (jobs_where system n (is_released_at system n))

-- the job that had the last slot
abbrev pub last_job : List Slot → Option Job
last_job [] = None
last_job (slot ∷ past) = job_in slot

-- the job of the last slot is unfinished after it, and the next slot is another job
abbrev pub preempted : System → List Slot → Option Job → Option Job → List Event
preempted system past None now = []
preempted system past (Some job) None = []
preempted system past (Some job) (Some by) = if not (same job by) && not (is_finished system past job) then Preempt (length past) job by ∷ [] else []

abbrev pub preemption : System → List Slot → Slot → List Event
preemption system past slot = preempted system past (last_job past) (job_in slot)

-- the reply of an attempt that won in this slot, or the retry of one that was lost, with its first slot, its item and
-- the tags
abbrev pub decision : System → List Slot → Slot → List Event
decision system past Idle = []
decision system past (Busy job) = []
decision system past (Decide job object (Some entry)) =
    let p = progress system job past in Reply (length past) p.first job (p.complete + 1) entry.reply entry.tag ∷ []
decision system past (Decide job object None) =
    let p = progress system job past in
    Retry (length past) p.first job (p.complete + 1) (wins_below object p.first past) (wins object past) ∷ []

-- the slot completes its job's last item
abbrev pub finished_in : System → List Slot → Slot → Option Job → List Event
finished_in system past slot None = []
finished_in system past slot (Some job) = if is_finished system (slot ∷ past) job then Finish (length past) job ∷ [] else []

abbrev pub finish : System → List Slot → Slot → List Event
finish system past slot = finished_in system past slot (job_in slot)

-- the events of a slot, in this order: misses, releases, preemption, reply or retry, finish
abbrev pub events_of : System → List Slot → Slot → List Event
events_of system past slot =
    misses system past ++ releases system (length past) ++ preemption system past slot ++ decision system past slot ++ finish system past slot

-- the events of these slots, from the oldest on
abbrev pub events_in : System → List Slot → List Event
events_in system [] = []
events_in system (slot ∷ past) = events_in system past ++ events_of system past slot

-- the events of the first n slots
abbrev pub events : System → ℕ → List Event
events system n = events_in system (slots system n)
