use Rattle.rx_set.proofs.ValidSets.{generated_valid, generated_few, generated_keeps, generated_span}
use Rattle.rx_set.proofs.laws.drawn_sets_are_valid.Goals as goal

pub returns-clause-valid : goal.returns-clause-valid
returns-clause-valid c = generated_valid

pub returns-clause-few : goal.returns-clause-few
returns-clause-few c = generated_few

pub returns-clause-costs : goal.returns-clause-costs
returns-clause-costs c = generated_keeps

pub returns-clause-deadlines : goal.returns-clause-deadlines
returns-clause-deadlines c = λ number task within. (generated_span number task within).0

pub returns-clause-periods : goal.returns-clause-periods
returns-clause-periods c = λ number task within. (generated_span number task within).1
