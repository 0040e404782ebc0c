-- How many slots there are of attempts.
use Rattle.std.specs.Prelude.{ℕ, zero, suc, ◌+◌, List, [], ◌∷◌, Option, Some, None}
use Rattle.rx_set.specs.declared.items.Item.{Item}
use Rattle.rx_set.specs.declared.items.Item.TheVariants.{Work, Op}
use Rattle.rx_set.specs.System.{System, item_at}
use Rattle.rx_slots.specs.Schedule.{Slot, Idle, Busy, Decide, progress}

-- a tick of an item that decides nothing is one of an attempt where the item is an operation
abbrev pub tried : Option Item → ℕ
tried None = 0
tried (Some (Work ticks)) = 0
tried (Some (Op object call)) = 1

-- it is the first one of the attempt where the item had no tick before
abbrev pub opened : Option Item → ℕ → ℕ
opened item zero = tried item
opened item (suc made) = 0

-- a slot that comes after the past: whether it belongs to an attempt, is the first of one, and decides one
abbrev pub tried_in : System → List Slot → Slot → ℕ
tried_in system past Idle = 0
tried_in system past (Busy mine) = tried (item_at system mine (progress system mine past).complete)
tried_in system past (Decide mine object outcome) = 1

abbrev pub opened_in : System → List Slot → Slot → ℕ
opened_in system past Idle = 0
opened_in system past (Busy mine) = opened (item_at system mine (progress system mine past).complete) (progress system mine past).made
opened_in system past (Decide mine object outcome) = 0

abbrev pub decided_in : Slot → ℕ
decided_in Idle = 0
decided_in (Busy mine) = 0
decided_in (Decide mine object outcome) = 1

-- how many slots belong to attempts
abbrev pub tried_slots : System → List Slot → ℕ
tried_slots system [] = 0
tried_slots system (slot ∷ past) = tried_slots system past + tried_in system past slot

-- how many attempts have a slot
abbrev pub opened_slots : System → List Slot → ℕ
opened_slots system [] = 0
opened_slots system (slot ∷ past) = opened_slots system past + opened_in system past slot

-- how many attempts are decided: won or lost
abbrev pub decided_slots : List Slot → ℕ
decided_slots [] = 0
decided_slots (slot ∷ past) = decided_slots past + decided_in slot
