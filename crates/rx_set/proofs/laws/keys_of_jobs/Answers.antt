use Rattle.rx_set.proofs.Keys.{keys_same}
use Rattle.rx_set.proofs.laws.keys_of_jobs.Goals as goal

pub returns-clause-apart : goal.returns-clause-apart
returns-clause-apart c = keys_same
