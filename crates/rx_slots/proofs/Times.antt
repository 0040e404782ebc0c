-- Each event of a slot is told at its time.
use Rattle.std.proofs.Common.{ℕ, ◌≡◌, length}
use Rattle.std.specs.List.{All}
use Rattle.rx_set.specs.System.{System}
use Rattle.rx_ledger.specs.declared.events.Event.{Event}
use Rattle.rx_ledger.specs.Ledgers.{time_of}
use Rattle.rx_slots.specs.Schedule.{slots, slot_at}
use Rattle.rx_slots.specs.Events.{misses, events_of}
use Rattle.rx_slots.proofs.Prefixes.{slots_count}
use Rattle.rx_slots.proofs.SlotEvents.{all_misses, all_releases, all_preemption, all_decision, all_finish, all_of_slot}

-- the event is told at this time
abbrev IsAt : ℕ → Event → Type 0
IsAt n event = time_of event ≡ n

pub miss_times : (system : System) (n : ℕ) → All (λ event. time_of event ≡ n) (misses system (slots system n))
miss_times system n = all_misses (IsAt n) system (slots system n) (λ job. slots_count system n)

pub slot_times : (system : System) (n : ℕ) → All (λ event. time_of event ≡ n) (events_of system (slots system n) (slot_at system n))
slot_times system n =
    let past = slots system n in
    let slot = slot_at system n in
    let now : length past ≡ n = slots_count system n in
    all_of_slot (IsAt n) system past slot
    (miss_times system n)
    (all_releases (IsAt n) system past (λ job. now))
    (all_preemption (IsAt n) system past slot (λ job by. now))
    (all_decision (IsAt n) system past slot (λ first job item answer tag. now) (λ first job item expected found. now))
    (all_finish (IsAt n) system past slot (λ job. now))
