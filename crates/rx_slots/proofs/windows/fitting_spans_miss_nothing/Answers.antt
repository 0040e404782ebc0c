use Rattle.rx_slots.proofs.Demanded.{demand_law}
use Rattle.rx_slots.proofs.Earliest.{earliest_sets}
use Rattle.rx_slots.proofs.windows.fitting_spans_miss_nothing.Goals as goal

pub returns-clause-demand : goal.returns-clause-demand
returns-clause-demand c = demand_law

pub returns-clause-earliest : goal.returns-clause-earliest
returns-clause-earliest c = earliest_sets
