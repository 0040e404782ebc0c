use Rattle.rx_set.proofs.LeastTimes.{least_some, least_none, test_is, first_fails, earlier_serves, unserved_known}
use Rattle.rx_set.proofs.laws.least_times_serve.Goals as goal

pub returns-clause-some : goal.returns-clause-some
returns-clause-some c = least_some

pub returns-clause-none : goal.returns-clause-none
returns-clause-none c = least_none

pub returns-clause-test : goal.returns-clause-test
returns-clause-test c = test_is

pub returns-clause-first : goal.returns-clause-first
returns-clause-first c = first_fails

pub returns-clause-before : goal.returns-clause-before
returns-clause-before c = earlier_serves

pub returns-clause-known : goal.returns-clause-known
returns-clause-known c = unserved_known
