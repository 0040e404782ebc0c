use Rattle.rx_edf.proofs.Answered.{yes_fits, no_fails}
use Rattle.rx_edf.proofs.Costs.{charged_tasks_valid}
use Rattle.rx_edf.proofs.laws.verdicts_are_exact.Goals as goal

pub returns-clause-yes : goal.returns-clause-yes
returns-clause-yes c system valid e = yes_fits system (charged_tasks_valid system valid) e

pub returns-clause-no : goal.returns-clause-no
returns-clause-no c system t need valid e = no_fails system (charged_tasks_valid system valid) t need e
