use Rattle.rx_slots.proofs.Charged.{charge_found, charge_once}
use Rattle.rx_slots.proofs.charges.retries_are_charged.Goals as goal

pub returns-clause-found : goal.returns-clause-found
returns-clause-found c = charge_found

pub returns-clause-once : goal.returns-clause-once
returns-clause-once c = charge_once
