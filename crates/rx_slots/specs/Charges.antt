-- Which preemption a retry is charged to.
use Rattle.std.specs.Prelude.{ℕ, ◌≡◌, ◌≤◌, ◌<◌, nat_le, nat_lt, Bool, Some}
use Rattle.rx_set.specs.declared.jobs.Job.{Job}
use Rattle.rx_set.specs.System.{System, rank}
use Rattle.rx_slots.specs.Laws.{who, so_far, IsPreemption}

-- before slot n the job has an attempt or work in hand, whose first tick was in a given slot
pub record IsHeld (system : System) (n : ℕ) (job : Job) (first : ℕ) : Type 0 where
  pub some : 1 ≤ (so_far system job n).made
  pub begins : (so_far system job n).first ≡ first

-- the first preemption of a job after a slot of its own: all slots from that one up to this one, which is another job's, are the job's
pub record IsFirstPreemption (system : System) (first at : ℕ) (job by : Job) : Type 0 where
  pub after : first < at
  pub own : (n : ℕ) → first ≤ n → n < at → who system n ≡ Some job
  pub preempts : IsPreemption system at job by

-- the task of a job has a rank of at most this, or below this
abbrev pub of_rank_to : System → ℕ → Job → Bool
of_rank_to system place job = nat_le (rank system job.task) place

abbrev pub of_rank_below : System → ℕ → Job → Bool
of_rank_below system place job = nat_lt (rank system job.task) place
