use Rattle.rx_slots.proofs.Times.{slot_times, miss_times}
use Rattle.rx_slots.proofs.laws.events_have_their_time.Goals as goal

pub returns-clause-slot : goal.returns-clause-slot
returns-clause-slot c = slot_times

pub returns-clause-late : goal.returns-clause-late
returns-clause-late c = miss_times
