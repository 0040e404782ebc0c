-- A slot tells no miss where none is missed at its time, and an admitted set that keeps its costs misses nothing.
use Rattle.std.proofs.Common.{ℕ, ◌≡◌, ◌≢◌, List, [], inl, inr, refl}
use Rattle.std.specs.Prelude.{count_by}
use Rattle.std.proofs.lemmas.List.Elements.{All-nil, All-same}
use Rattle.rx_set.specs.Admission.{EachIsServed, EachSpanFits}
use Rattle.rx_set.specs.Valid.{IsValid, KeepsCosts}
use Rattle.rx_set.specs.declared.policies.Policy.TheVariants.{Edf}
use Rattle.rx_set.specs.System.{System}
use Rattle.rx_ledger.specs.declared.events.Event.{Event}
use Rattle.rx_ledger.specs.Counts.{is_miss}
use Rattle.rx_slots.specs.Admitted.{IsAdmitted}
use Rattle.rx_slots.specs.Schedule.{Slot, slots}
use Rattle.rx_slots.specs.Events.{misses, events_of}
use Rattle.rx_slots.proofs.SlotEvents.{all_releases, all_preemption, all_decision, all_finish, all_of_slot}
use Rattle.rx_slots.proofs.EventSums.{counted, sum_none}

abbrev IsNoMiss : Event → Type 0
IsNoMiss event = counted is_miss event ≡ 0

pub slot_misses : (system : System) (past : List Slot) (slot : Slot) → misses system past ≡ [] → count_by is_miss (events_of system past slot) ≡ 0
slot_misses system past slot none =
    sum_none (counted is_miss) (events_of system past slot)
    (all_of_slot IsNoMiss system past slot
    (All-same IsNoMiss (misses system past) [] none (All-nil IsNoMiss))
    (all_releases IsNoMiss system past (λ job. refl))
    (all_preemption IsNoMiss system past slot (λ job by. refl))
    (all_decision IsNoMiss system past slot (λ first job item answer tag. refl) (λ first job item expected found. refl))
    (all_finish IsNoMiss system past slot (λ job. refl)))

-- the two tests in one
pub admitted_sets : (system : System) → IsValid system → KeepsCosts system → IsAdmitted system → (n : ℕ)
    → ((s : System) (m : ℕ) → IsValid s → KeepsCosts s → s.policy ≢ Edf → EachIsServed s → misses s (slots s m) ≡ [])
    → ((s : System) (m : ℕ) → IsValid s → KeepsCosts s → s.policy ≡ Edf → EachSpanFits s → misses s (slots s m) ≡ [])
    → misses system (slots system n) ≡ []
admitted_sets system valid kept (inl fixed) n served fitting = served system n valid kept fixed.0 fixed.1
admitted_sets system valid kept (inr earliest) n served fitting = fitting system n valid kept earliest.0 earliest.1
