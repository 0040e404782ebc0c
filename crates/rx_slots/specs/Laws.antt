-- The words of the laws of the schedule.
use Rattle.std.specs.Prelude.{ℕ, zero, suc, ◌+◌, ◌≡◌, ◌≢◌, ◌≤◌, ◌<◌, Bool, true, false, if◌then◌else◌, List, [], ◌∷◌, ◌++◌, map, reverse, take, Option, Some, None}
use Rattle.std.specs.List.{flat_map}
use Rattle.rx_seq.specs.History.{tag_of}
use Rattle.rx_seq.specs.Legal.{entries_of}
use Rattle.rx_seq.specs.declared.entries.Entry.{Entry}
use Rattle.rx_seq.specs.declared.replies.Reply.{Reply}
use Rattle.rx_set.specs.declared.items.Item.{Item}
use Rattle.rx_set.specs.declared.items.Item.TheVariants.{Work, Op}
use Rattle.rx_set.specs.declared.jobs.Job.{Job}
use Rattle.rx_set.specs.System.{System, task_at, task_of, item_at, attempt_cost, release, key, is_below}
use Rattle.rx_set.specs.Valid.{IsJobOf}
use Rattle.rx_set.specs.Operations.{Asked, asked_of, operations_of}
use Rattle.rx_slots.specs.Schedule.{Slot, Idle, Busy, Decide, Progress, jobs_of, progress, is_finished, job_in, same, history, slots, slot_at, wins_on}

-- the job that has slot n
abbrev pub who : System → ℕ → Option Job
who system n = job_in (slot_at system n)

-- how far its slots before slot n bring a job
abbrev pub so_far : System → Job → ℕ → Progress
so_far system job n = progress system job (slots system n)

-- whether its slots before slot n finish a job
abbrev pub finished_before : System → Job → ℕ → Bool
finished_before system job n = is_finished system (slots system n) job

-- a job of any number that is released at n or before, and not finished by its slots before n
pub record IsPendingAt (system : System) (n : ℕ) (job : Job) : Type 0 where
  pub known : IsJobOf system job
  pub released : release system job ≤ n
  pub unfinished : finished_before system job n ≡ false

-- a pending job at n, where no pending job has a lower key
pub record IsLeastAt (system : System) (n : ℕ) (job : Job) : Type 0 where
  pub pending : IsPendingAt system n job
  pub least : (other : Job) → IsPendingAt system n other → is_below (key system other) (key system job) ≡ false

-- a slot takes the processor from a job: the slot before was the job's, which is unfinished after it, and this one is
-- another job's
pub record IsPreemption (system : System) (at : ℕ) (job by : Job) : Type 0 where
  pub before : ℕ
  pub follows : at ≡ suc before
  pub had : who system before ≡ Some job
  pub unfinished : finished_before system job at ≡ false
  pub has : who system at ≡ Some by
  pub other : job ≢ by

-- an attempt wins in a slot: its first slot, its job's item, from 1, and the reply and the tag of its entry
pub record IsReply (system : System) (at first : ℕ) (job : Job) (item : ℕ) (reply : Reply) (tag : ℕ) : Type 0 where
  pub object : ℕ
  pub entry : Entry
  pub wins : slot_at system at ≡ Decide job object (Some entry)
  pub begins : first ≡ (so_far system job at).first
  pub number : item ≡ (so_far system job at).complete + 1
  pub replies : reply ≡ entry.reply
  pub tags : tag ≡ entry.tag

-- an attempt is lost in a slot: its first slot, its job's item, from 1, and its object's tag at its first slot and now
pub record IsRetry (system : System) (at first : ℕ) (job : Job) (item expected found : ℕ) : Type 0 where
  pub object : ℕ
  pub loses : slot_at system at ≡ Decide job object None
  pub begins : first ≡ (so_far system job at).first
  pub number : item ≡ (so_far system job at).complete + 1
  pub expects : expected ≡ tag_of object (history (slots system first))
  pub finds : found ≡ tag_of object (history (slots system at))

-- how many of the slots are the job's
abbrev pub owned : Job → Option Job → ℕ
owned job None = 0
owned job (Some other) = if same other job then 1 else 0

abbrev pub slots_of : Job → List Slot → ℕ
slots_of job [] = 0
slots_of job (slot ∷ past) = slots_of job past + owned job (job_in slot)

-- the ticks that an item asks for: those of work, or those of one attempt
abbrev pub asked_by : System → Option Item → ℕ
asked_by system None = 0
asked_by system (Some (Work ticks)) = ticks
asked_by system (Some (Op object call)) = attempt_cost system object

-- the ticks that the items of a job before a place ask for, with the ticks that this job demands
abbrev pub asked_up_to : System → Job → ℕ → ℕ
asked_up_to system job zero = 0
asked_up_to system job (suc place) = asked_up_to system job place + asked_by system (item_at system job place)

-- the ticks of the attempt of the job that a slot loses
abbrev pub lost_in : System → Job → Slot → ℕ
lost_in system job Idle = 0
lost_in system job (Busy other) = 0
lost_in system job (Decide other object None) = if same other job then attempt_cost system object else 0
lost_in system job (Decide other object (Some entry)) = 0

-- the ticks of all attempts that the job lost
abbrev pub lost_ticks : System → Job → List Slot → ℕ
lost_ticks system job [] = 0
lost_ticks system job (slot ∷ past) = lost_ticks system job past + lost_in system job slot

-- an attempt on the object won, and raised its tag, in a slot strictly between these two
pub record IsSpoiled (system : System) (object first last : ℕ) : Type 0 where
  pub at : ℕ
  pub after : first < at
  pub before : at < last
  pub wins : wins_on object (slot_at system at) ≡ true

-- a slot between the first and the last of an attempt: its job has the same item in hand, and has had as many of its
-- slots since the first as ticks are counted
pub record IsAmid (system : System) (job : Job) (first complete at : ℕ) : Type 0 where
  pub busy : slot_at system at ≡ Busy job
  pub item : (so_far system job at).complete ≡ complete
  pub begins : (so_far system job at).first ≡ first
  pub some : 1 ≤ (so_far system job at).made
  pub made : slots_of job (slots system at) ≡ slots_of job (slots system first) + (so_far system job at).made

-- a job of a task, by its number
abbrev pub nth_job : ℕ → ℕ → Job
nth_job task number = record { task = task; number = number }

-- the operations of the bodies of the jobs 1 to n of a task, job after job
abbrev pub operations_up_to : System → ℕ → ℕ → List Asked
operations_up_to system task n = flat_map (λ job. operations_of (task_of system job).items) (jobs_of task n)

-- the operations that a task's entries made, oldest first
abbrev pub operations_in : ℕ → List Entry → List Asked
operations_in task entries = map asked_of (reverse (entries_of task entries))

-- before slot n the jobs of a task up to some number are finished, the next one is not, and later ones have had no
-- slot; the task's entries made the operations of the finished jobs, and then those of the next job's complete items
pub record FollowsBodies (system : System) (task n : ℕ) : Type 0 where
  pub finished : ℕ
  pub done : (number : ℕ) → 1 ≤ number → number ≤ finished → finished_before system (nth_job task number) n ≡ true
  pub in_hand : finished_before system (nth_job task (suc finished)) n ≡ false
  pub later : (number : ℕ) → suc finished < number → slots_of (nth_job task number) (slots system n) ≡ 0
  pub entries : operations_in task (history (slots system n)) ≡
      operations_up_to system task finished ++ operations_of (take (so_far system (nth_job task (suc finished)) n).complete (task_at system task).items)
