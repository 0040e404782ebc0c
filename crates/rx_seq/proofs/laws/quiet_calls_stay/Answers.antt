use Rattle.rx_seq.proofs.QuietCalls.{quiet_stays, unchanged_quiet}
use Rattle.rx_seq.proofs.laws.quiet_calls_stay.Goals as goal

pub returns-clause-quiet : goal.returns-clause-quiet
returns-clause-quiet c = quiet_stays

pub returns-clause-only : goal.returns-clause-only
returns-clause-only c = unchanged_quiet
