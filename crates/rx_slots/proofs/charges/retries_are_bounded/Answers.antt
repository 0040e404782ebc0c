use Rattle.rx_ledger.specs.Intervals.{any_job}
use Rattle.rx_slots.proofs.Bounded.{retries_bounded, ranks_bounded}
use Rattle.rx_slots.proofs.charges.retries_are_bounded.Goals as goal

pub returns-clause-all : goal.returns-clause-all
returns-clause-all c = retries_bounded any_job

pub returns-clause-ranks : goal.returns-clause-ranks
returns-clause-ranks c = ranks_bounded
