-- What the counts of the bank make of the slots of attempts.
use Rattle.std.proofs.Common.{ℕ, zero, suc, ◌≡◌, ◌≢◌, ◌≤◌, ◌+◌, List, [], ◌∷◌, length, Option, Some, None, refl, sym, arith, subst}
use Rattle.std.specs.Prelude.{option_map}
use Rattle.rx_set.specs.declared.items.Item.{Item}
use Rattle.rx_set.specs.declared.items.Item.TheVariants.{Work, Op}
use Rattle.rx_set.specs.System.{System, item_at}
use Rattle.rx_port.specs.declared.views.Counts.{Counts}
use Rattle.rx_slots.specs.Schedule.{Slot, Idle, Busy, Decide, progress}
use Rattle.rx_tick.specs.Banks.{Touch, Nothing, Load, Store, Exchange, touched, TouchesIn, MayTouch}
use Rattle.rx_tick.specs.Sums.{AreSumsIn, AreSums}
use Rattle.rx_slots.specs.AttemptSlots.{tried, opened, tried_in, tried_slots, opened_slots, decided_slots}

-- one more slot, in which nothing, one load, one store or one exchange is made
none_more : (decided opens tries : ℕ) (counts : Counts) → AreSumsIn decided opens tries counts → AreSumsIn (decided + 0) (opens + 0) (tries + 0) (touched Nothing counts)
none_more decided opens tries counts h = record { exchanges = omega (arith, h.exchanges); loads = omega (arith, h.loads); events = omega (arith, h.events) }

tried_more : (decided opens tries : ℕ) (touch : Touch) (counts : Counts) → touch ≢ Exchange → AreSumsIn decided opens tries counts → AreSumsIn (decided + 0) (opens + 0) (tries + 1) (touched touch counts)
tried_more decided opens tries Nothing counts not h = record { exchanges = omega (arith, h.exchanges); loads = omega (arith, h.loads); events = omega (arith, h.events) }
tried_more decided opens tries Load counts not h = record { exchanges = omega (arith, h.exchanges); loads = omega (arith, h.loads); events = omega (arith, h.events) }
tried_more decided opens tries Store counts not h = record { exchanges = omega (arith, h.exchanges); loads = omega (arith, h.loads); events = omega (arith, h.events) }
tried_more decided opens tries Exchange counts not h = absurd (not refl)

opened_more : (decided opens tries : ℕ) (counts : Counts) → AreSumsIn decided opens tries counts → AreSumsIn (decided + 0) (opens + 1) (tries + 1) (touched Load counts)
opened_more decided opens tries counts h = record { exchanges = omega (arith, h.exchanges); loads = omega (arith, h.loads); events = omega (arith, h.events) }

decided_more : (decided opens tries : ℕ) (counts : Counts) → AreSumsIn decided opens tries counts → AreSumsIn (decided + 1) (opens + 0) (tries + 1) (touched Exchange counts)
decided_more decided opens tries counts h = record { exchanges = omega (arith, h.exchanges); loads = omega (arith, h.loads); events = omega (arith, h.events) }

-- a tick that decides nothing
busy_more : (decided opens tries : ℕ) (item : Option Item) (made : ℕ) (touch : Touch) (counts : Counts) → TouchesIn item made touch → AreSumsIn decided opens tries counts
    → AreSumsIn (decided + 0) (opens + opened item made) (tries + tried item) (touched touch counts)
busy_more decided opens tries None zero touch counts may h = subst (λ (t : Touch). AreSumsIn (decided + 0) (opens + 0) (tries + 0) (touched t counts)) (sym may) (none_more decided opens tries counts h)
busy_more decided opens tries None (suc made) touch counts may h = subst (λ (t : Touch). AreSumsIn (decided + 0) (opens + 0) (tries + 0) (touched t counts)) (sym may) (none_more decided opens tries counts h)
busy_more decided opens tries (Some (Work ticks)) zero touch counts may h = subst (λ (t : Touch). AreSumsIn (decided + 0) (opens + 0) (tries + 0) (touched t counts)) (sym may) (none_more decided opens tries counts h)
busy_more decided opens tries (Some (Work ticks)) (suc made) touch counts may h = subst (λ (t : Touch). AreSumsIn (decided + 0) (opens + 0) (tries + 0) (touched t counts)) (sym may) (none_more decided opens tries counts h)
busy_more decided opens tries (Some (Op object call)) zero touch counts may h = subst (λ (t : Touch). AreSumsIn (decided + 0) (opens + 1) (tries + 1) (touched t counts)) (sym may) (opened_more decided opens tries counts h)
busy_more decided opens tries (Some (Op object call)) (suc made) touch counts may h = tried_more decided opens tries touch counts may h

in_more : (system : System) (past : List Slot) (slot : Slot) (touch : Touch) (counts : Counts) → MayTouch system past slot touch
    → AreSumsIn (decided_slots past) (opened_slots system past) (tried_slots system past) counts
    → AreSumsIn (decided_slots (slot ∷ past)) (opened_slots system (slot ∷ past)) (tried_slots system (slot ∷ past)) (touched touch counts)
in_more system past Idle touch counts may h =
    subst (λ (t : Touch). AreSumsIn (decided_slots past + 0) (opened_slots system past + 0) (tried_slots system past + 0) (touched t counts)) (sym may)
    (none_more (decided_slots past) (opened_slots system past) (tried_slots system past) counts h)
in_more system past (Busy mine) touch counts may h =
    busy_more (decided_slots past) (opened_slots system past) (tried_slots system past) (item_at system mine (progress system mine past).complete) (progress system mine past).made touch counts may h
in_more system past (Decide mine object outcome) touch counts may h =
    subst (λ (t : Touch). AreSumsIn (decided_slots past + 1) (opened_slots system past + 0) (tried_slots system past + 1) (touched t counts)) (sym may)
    (decided_more (decided_slots past) (opened_slots system past) (tried_slots system past) counts h)

pub sums_more : (system : System) (past : List Slot) (slot : Slot) (touch : Touch) (old new : Option Counts) → MayTouch system past slot touch → new ≡ option_map (touched touch) old
    → AreSums system past old → AreSums system (slot ∷ past) new
sums_more system past slot touch old new may rise h = subst (AreSums system (slot ∷ past)) (sym rise) (more old h)
  where
    more : (counts : Option Counts) → AreSums system past counts → AreSums system (slot ∷ past) (option_map (touched touch) counts)
    more None h = tt
    more (Some counts) h = in_more system past slot touch counts may h

-- there are no more slots of attempts than slots
tried_one : (item : Option Item) → tried item ≤ 1
tried_one None = omega arith
tried_one (Some (Work ticks)) = omega arith
tried_one (Some (Op object call)) = omega arith

tried_here : (system : System) (past : List Slot) (slot : Slot) → tried_in system past slot ≤ 1
tried_here system past Idle = omega arith
tried_here system past (Busy mine) = tried_one (item_at system mine (progress system mine past).complete)
tried_here system past (Decide mine object outcome) = omega arith

pub tried_few : (system : System) (past : List Slot) → tried_slots system past ≤ length past
tried_few system [] = omega arith
tried_few system (slot ∷ past) = omega (arith, tried_few system past, tried_here system past slot)
