-- The order of events in a ledger.
use Rattle.std.specs.Prelude.{ℕ, ◌≡◌, ◌≤◌, ◌<◌, ◌-◌, Bool, true, List, length, slice_get, Some}
use Rattle.std.specs.List.Sorted.{IsNonDecreasingBy}
use Rattle.rx_ledger.specs.declared.events.Event.{Event}
use Rattle.rx_ledger.specs.declared.events.Event.TheVariants.{Miss, Release, Preempt, Reply, Retry, Finish}

-- the time of an event: a retry's and a reply's is that of the last slot of the attempt
abbrev pub time_of : Event → ℕ
time_of (Miss at job) = at
time_of (Release at job) = at
time_of (Preempt at job by) = at
time_of (Reply at first job item reply tag) = at
time_of (Retry at first job item expected found) = at
time_of (Finish at job) = at

-- times never fall
abbrev pub InOrder : List Event → Type 0
InOrder events = IsNonDecreasingBy time_of events

-- the time of an event is not below that of the last one
abbrev pub MayFollow : List Event → Event → Type 0
MayFollow events event = (last : Event) → slice_get events (length events - 1) ≡ Some last → time_of last ≤ time_of event

-- a test that passes events of the times from a to b - 1 alone
abbrev pub IsWithin : (Event → Bool) → ℕ → ℕ → Type 0
IsWithin test a b = (event : Event) → test event ≡ true → (a ≤ time_of event) × (time_of event < b)
