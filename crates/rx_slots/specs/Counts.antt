-- The totals of a schedule.
use Rattle.std.specs.Prelude.{ℕ, ◌+◌, List, [], ◌∷◌, count_by, length, Option, Some, None}
use Rattle.rx_set.specs.declared.jobs.Job.{Job}
use Rattle.rx_ledger.specs.declared.events.Event.{Event}
use Rattle.rx_ledger.specs.declared.totals.Totals.{Totals}
use Rattle.rx_ledger.specs.Counts.{is_miss, is_release, is_preemption, is_reply, is_retry, is_finish}
use Rattle.rx_slots.specs.Schedule.{Slot, job_in}

-- 1 for a slot of no job, and 0 for a slot of one
abbrev pub idles : Option Job → ℕ
idles None = 1
idles (Some job) = 0

-- how many slots are idle
abbrev pub idle_slots : List Slot → ℕ
idle_slots [] = 0
idle_slots (slot ∷ past) = idle_slots past + idles (job_in slot)

-- how many slots there are, how many of them idle, and how many events of each kind
abbrev pub totals_of : List Slot → List Event → Totals
totals_of past told = record {
  ticks = length past;
  idle = idle_slots past;
  released = count_by is_release told;
  finished = count_by is_finish told;
  replies = count_by is_reply told;
  retries = count_by is_retry told;
  preempted = count_by is_preemption told;
  missed = count_by is_miss told;
}
