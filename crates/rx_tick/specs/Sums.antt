-- What the counts of the bank make of the slots of attempts.
use Rattle.std.specs.Prelude.{ℕ, ◌≡◌, ◌≤◌, ◌+◌, List, Option, IfSome}
use Rattle.rx_set.specs.System.{System}
use Rattle.rx_port.specs.declared.views.Counts.{Counts}
use Rattle.rx_slots.specs.Schedule.{Slot}
use Rattle.rx_slots.specs.AttemptSlots.{tried_slots, opened_slots, decided_slots}

-- the counts of a bank after some slots: one exchange for each attempt that is decided, a load at least for each that
-- has a slot, and all together not more than the slots of attempts
pub record AreSumsIn (decided opened tried : ℕ) (counts : Counts) : Type 0 where
  pub exchanges : counts.exchanges ≡ decided
  pub loads : opened ≤ counts.loads
  pub events : counts.loads + counts.stores + counts.exchanges ≤ tried

abbrev pub AreSums : System → List Slot → Option Counts → Type 0
AreSums system past counts = IfSome counts (AreSumsIn (decided_slots past) (opened_slots system past) (tried_slots system past))
