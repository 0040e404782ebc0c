use Rattle.rx_report.proofs.Operations.{own_call}
use Rattle.rx_report.proofs.laws.lines_tell_their_calls.Goals as goal

pub returns-clause-calls : goal.returns-clause-calls
returns-clause-calls c = λ system jobs place entry at numbered. (own_call system jobs place entry at numbered).calls

pub returns-clause-jobs : goal.returns-clause-jobs
returns-clause-jobs c = λ system jobs place entry at numbered. (own_call system jobs place entry at numbered).jobs_in

pub returns-clause-items : goal.returns-clause-items
returns-clause-items c = λ system jobs place entry at numbered. (own_call system jobs place entry at numbered).items_in

pub returns-clause-places : goal.returns-clause-places
returns-clause-places c = λ system jobs place entry at numbered. (own_call system jobs place entry at numbered).places
