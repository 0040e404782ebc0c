-- What the executive keeps, against the schedule.
use Rattle.std.specs.Prelude.{ℕ, zero, suc, ◌≡◌, ◌==◌, ◌&&◌, ◌+◌, ◌<◌, ◌≤◌, ◌^◌, Bool, true, if◌then◌else◌, nat_lt, Option, None, List, length, get_or, map, filter}
use Rattle.std.specs.Option.{ForSome}
use Rattle.rx_set.specs.declared.jobs.Job.{Job}
use Rattle.rx_set.specs.System.{System, TaskRow, task_at, task_of, release, due}
use Rattle.rx_set.specs.Valid.{IsJob, IsValid}
use Rattle.rx_ledger.specs.declared.events.Event.{Event}
use Rattle.rx_ledger.specs.declared.events.Event.TheVariants.{Miss, Release}
use Rattle.rx_slots.specs.Schedule.{Slot, Progress, sooner, start, after, progress, is_finished, completed, lost, ticked, slots, jobs_of}
use Rattle.rx_slots.specs.Events.{last_job, is_missed, is_released_at}
use Rattle.rx_tick.specs.declared.states.State.{State}
use Rattle.rx_tick.specs.declared.states.Made.{Made}
use Rattle.rx_tick.specs.declared.states.Made.TheVariants.{On, Ended, Lost}
use Rattle.rx_tick.specs.declared.turns.Turn.{Turn}

-- a state that stands where there is none
abbrev pub no_state : State
no_state = record { released = 0; next = 0; finished = 0; complete = 0; made = 0; first = 0 }

-- the state of a task, by its number from 0
abbrev pub state_at : List State → ℕ → State
state_at states task = get_or states task no_state

-- a job of a task, by its number
abbrev pub job : ℕ → ℕ → Job
job task number = record { task = task; number = number }

-- After the past a task's jobs 1 to finished are finished, the next one has made the progress that is kept, and later ones have had no tick.
-- The jobs that are counted as released are those that were released below the time
pub record IsState (system : System) (past : List Slot) (time task : ℕ) (s : State) : Type 0 where
  pub finished : (k : ℕ) → 1 ≤ k → k ≤ s.finished → is_finished system past (job task k) ≡ true
  pub started : progress system (job task (s.finished + 1)) past ≡ record { complete = s.complete; made = s.made; first = s.first }
  pub unfinished : s.complete < length (task_at system task).items
  pub later : (k : ℕ) → s.finished + 1 < k → progress system (job task k) past ≡ start
  pub next_release : s.next ≡ release system (job task (s.released + 1))
  pub next : time ≤ s.next
  pub last : 1 ≤ s.released → release system (job task s.released) < time
  pub order : s.finished ≤ s.released

-- the system is valid, and so it is with the state of each task
pub record AreStates (system : System) (past : List Slot) (time : ℕ) (states : List State) : Type 0 where
  pub valid : IsValid system
  pub count : length states ≡ length system.tasks
  pub each : (task : ℕ) → task < length system.tasks → IsState system past time task (state_at states task)

-- the sooner of a job and the one that a task offers
abbrev pub offer : System → Option Job → ℕ → State → Option Job
offer system best task s = if nat_lt s.finished s.released then sooner system best (job task (s.finished + 1)) else best

-- the soonest of the jobs that the first n tasks offer
abbrev pub best_of : System → ℕ → List State → Option Job
best_of system zero states = None
best_of system (suc n) states = offer system (best_of system n states) n (state_at states n)

-- the job that its task offers
pub record IsOffered (states : List State) (job : Job) : Type 0 where
  pub task : job.task < length states
  pub released : (state_at states job.task).finished < (state_at states job.task).released
  pub number : job.number ≡ (state_at states job.task).finished + 1

-- the progress of the started job that a state keeps
abbrev pub progress_of : State → Progress
progress_of s = record { complete = s.complete; made = s.made; first = s.first }

-- the progress after a tick that brought the item in hand further, completed it or lost its attempt
abbrev pub progress_made : Made → ℕ → Progress → Progress
progress_made On now p = ticked now p
progress_made Ended now p = completed p
progress_made Lost now p = lost p

-- the state after a tick that brings its started job to this progress, where its body has so many items
abbrev pub with_progress : ℕ → State → Progress → State
with_progress items s p =
    if p.complete == items then record s { finished = s.finished + 1; complete = 0; made = 0; first = 0 }
    else record s { complete = p.complete; made = p.made; first = p.first }

-- what a state says of the item in hand
abbrev pub in_hand : State → State
in_hand s = record s { released = 0; next = 0 }

-- the state of a job's task after a slot of this job, which is its started one
abbrev pub after_slot : System → ℕ → Job → Slot → State → State
after_slot system now mine slot s = with_progress (length (task_of system mine).items) s (after system mine now slot (progress_of s))

-- the latest released job of the task, where it is unfinished and due now or later, is due at this time or later
abbrev pub IsBeforeDue : System → ℕ → ℕ → ℕ → State → Type 0
IsBeforeDue system time watch task s = s.finished < s.released → time ≤ due system (job task s.released) → watch ≤ due system (job task s.released)

-- so it is for each task
pub record AreBeforeDue (system : System) (time watch : ℕ) (states : List State) : Type 0 where
  pub each : (task : ℕ) → task < length system.tasks → IsBeforeDue system time watch task (state_at states task)

-- no task releases a job before this time
pub record AreBeforeRelease (system : System) (watch : ℕ) (states : List State) : Type 0 where
  pub each : (task : ℕ) → task < length system.tasks → watch ≤ (state_at states task).next

-- what is kept of all tasks together
pub record IsTurn (system : System) (time : ℕ) (states : List State) (turn : Turn) : Type 0 where
  pub best : turn.best ≡ best_of system (length system.tasks) states
  pub dues : AreBeforeDue system time turn.next_due states
  pub releases : AreBeforeRelease system turn.next_release states
  pub last : turn.last ≡ last_job (slots system time)
  pub last_known : ForSome turn.last (IsJob system)

-- the soonest job after a task's state has changed, which offers a job now if it offered none before
abbrev pub with_offer : System → Option Job → ℕ → State → State → Option Job
with_offer system best task old new = if nat_lt old.finished old.released then best else offer system best task new

-- the latest released job is unfinished, and due now
abbrev pub is_late_at : TaskRow → ℕ → State → Bool
is_late_at row now s = nat_lt s.finished s.released && (s.next + row.deadline == now + row.period)

-- the misses and the releases of a task
abbrev pub misses_at : System → List Slot → ℕ → ℕ → List Event
misses_at system past now task = map (Miss now) (filter (is_missed system past) (jobs_of task (now + 1)))

abbrev pub releases_at : System → ℕ → ℕ → List Event
releases_at system now task = map (Release now) (filter (is_released_at system now) (jobs_of task (now + 1)))

-- the first unfinished job of each task can be asked for its key
pub record AreOffers (system : System) (states : List State) : Type 0 where
  pub valid : IsValid system
  pub count : length states ≡ length system.tasks
  pub few : (task : ℕ) → task < length system.tasks → (state_at states task).released ≤ 2 ^ 40

-- the state of a task before the first slot
abbrev pub first_state_of : TaskRow → State
first_state_of row = record { released = 0; next = row.offset; finished = 0; complete = 0; made = 0; first = 0 }
