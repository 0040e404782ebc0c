use Rattle.rx_slots.proofs.Prefixes.{slots_count, first_slots, slot_stays}
use Rattle.rx_slots.proofs.laws.schedules_extend.Goals as goal

pub returns-clause-count : goal.returns-clause-count
returns-clause-count c = slots_count

pub returns-clause-begins : goal.returns-clause-begins
returns-clause-begins c = first_slots

pub returns-clause-stays : goal.returns-clause-stays
returns-clause-stays c = slot_stays
