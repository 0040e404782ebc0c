-- How many replies and retries are told.
use Rattle.std.proofs.Common.{ℕ, zero, suc, ◌≡◌, ◌+◌, List, Some, None, refl, arith}
use Rattle.std.specs.Prelude.{count_by}
use Rattle.std.proofs.lemmas.List.Sums.{sum_by-append}
use Rattle.rx_set.specs.System.{System}
use Rattle.rx_ledger.specs.Counts.{is_reply, is_retry}
use Rattle.rx_slots.specs.Schedule.{Slot, Idle, Busy, Decide, slots, slot_at}
use Rattle.rx_slots.specs.Events.{decision, events_of, events}
use Rattle.rx_slots.specs.AttemptSlots.{decided_in, decided_slots}
use Rattle.rx_slots.proofs.EventSums.{counted, IsOnDecisions, decisions_alone}

replies_alone : IsOnDecisions (counted is_reply)
replies_alone = record { miss = λ n job. refl; release = λ n job. refl; preempt = λ n job by. refl; finish = λ n job. refl }

retries_alone : IsOnDecisions (counted is_retry)
retries_alone = record { miss = λ n job. refl; release = λ n job. refl; preempt = λ n job by. refl; finish = λ n job. refl }

-- an attempt that is decided is one
told_decision : (system : System) (past : List Slot) (slot : Slot) → count_by is_reply (decision system past slot) + count_by is_retry (decision system past slot) ≡ decided_in slot
told_decision system past Idle = refl
told_decision system past (Busy job) = refl
told_decision system past (Decide job object None) = refl
told_decision system past (Decide job object (Some entry)) = refl

pub told_count : (system : System) (n : ℕ) → count_by is_reply (events system n) + count_by is_retry (events system n) ≡ decided_slots (slots system n)
told_count system zero = refl
told_count system (suc n) =
    let past = slots system n in
    let slot = slot_at system n in
    omega (
      arith,
      told_count system n,
      sum_by-append (counted is_reply) (events system n) (events_of system past slot),
      sum_by-append (counted is_retry) (events system n) (events_of system past slot),
      decisions_alone (counted is_reply) system past slot replies_alone,
      decisions_alone (counted is_retry) system past slot retries_alone,
      told_decision system past slot,
    )
