-- What is counted of slots and events.
use Rattle.std.specs.Prelude.{ℕ, ◌+◌, ◌<◌, Bool, true, false}
use Rattle.rx_ledger.specs.declared.events.Event.{Event}
use Rattle.rx_ledger.specs.declared.events.Event.TheVariants.{Miss, Release, Preempt, Reply, Retry, Finish}
use Rattle.rx_ledger.specs.declared.totals.Totals.{Totals}

-- the event is one of this kind
abbrev pub is_miss : Event → Bool
is_miss (Miss at job) = true
is_miss _ = false

abbrev pub is_release : Event → Bool
is_release (Release at job) = true
is_release _ = false

abbrev pub is_preemption : Event → Bool
is_preemption (Preempt at job by) = true
is_preemption _ = false

abbrev pub is_reply : Event → Bool
is_reply (Reply at first job item reply tag) = true
is_reply _ = false

abbrev pub is_retry : Event → Bool
is_retry (Retry at first job item expected found) = true
is_retry _ = false

abbrev pub is_finish : Event → Bool
is_finish (Finish at job) = true
is_finish _ = false

-- totals of nothing
abbrev pub zeros : Totals
zeros = record { ticks = 0; idle = 0; released = 0; finished = 0; replies = 0; retries = 0; preempted = 0; missed = 0 }

-- totals with one more event
abbrev pub counted : Totals → Event → Totals
counted t (Miss at job) = record t { missed = t.missed + 1 }
counted t (Release at job) = record t { released = t.released + 1 }
counted t (Preempt at job by) = record t { preempted = t.preempted + 1 }
counted t (Reply at first job item reply tag) = record t { replies = t.replies + 1 }
counted t (Retry at first job item expected found) = record t { retries = t.retries + 1 }
counted t (Finish at job) = record t { finished = t.finished + 1 }

-- totals with one more slot, which is busy or idle
abbrev pub with_slot : Totals → Bool → Totals
with_slot t true = record t { ticks = t.ticks + 1 }
with_slot t false = record t { ticks = t.ticks + 1; idle = t.idle + 1 }

-- each number is below a limit
pub record AreBelow (limit : ℕ) (t : Totals) : Type 0 where
  pub ticks : t.ticks < limit
  pub idle : t.idle < limit
  pub released : t.released < limit
  pub finished : t.finished < limit
  pub replies : t.replies < limit
  pub retries : t.retries < limit
  pub preempted : t.preempted < limit
  pub missed : t.missed < limit
