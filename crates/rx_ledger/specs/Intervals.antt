-- How many retries, preemptions and releases there are in an interval.
use Rattle.std.specs.Prelude.{ℕ, ◌&&◌, nat_le, nat_lt, Bool, true, false, List, count_by}
use Rattle.rx_set.specs.declared.jobs.Job.{Job}
use Rattle.rx_ledger.specs.declared.events.Event.{Event}
use Rattle.rx_ledger.specs.declared.events.Event.TheVariants.{Release, Preempt, Retry}

-- the test that every job passes
abbrev pub any_job : Job → Bool
any_job job = true

-- a retry of a job that passes the test, whose attempt began in slot a or later, and was lost in a slot before b
abbrev pub is_retry_in : (Job → Bool) → ℕ → ℕ → Event → Bool
is_retry_in test a b (Retry at first job item expected found) = nat_le a first && (nat_lt at b && test job)
is_retry_in test a b _ = false

-- a preemption, strictly between a and b, of a job that passes the test
abbrev pub is_preemption_in : (Job → Bool) → ℕ → ℕ → Event → Bool
is_preemption_in test a b (Preempt at job by) = nat_lt a at && (nat_lt at b && test job)
is_preemption_in test a b _ = false

-- a release, strictly between a and b, of a job that passes the test
abbrev pub is_release_in : (Job → Bool) → ℕ → ℕ → Event → Bool
is_release_in test a b (Release at job) = nat_lt a at && (nat_lt at b && test job)
is_release_in test a b _ = false

-- how many of the events are one of these: the retries, the preemptions and the releases in an interval
abbrev pub retries : (Job → Bool) → ℕ → ℕ → List Event → ℕ
retries test a b told = count_by (is_retry_in test a b) told

abbrev pub preemptions : (Job → Bool) → ℕ → ℕ → List Event → ℕ
preemptions test a b told = count_by (is_preemption_in test a b) told

abbrev pub releases : (Job → Bool) → ℕ → ℕ → List Event → ℕ
releases test a b told = count_by (is_release_in test a b) told
