use Rattle.std.proofs.Common.{sym, ◌∙◌}
use Rattle.std.proofs.lemmas.Bool.{false≢true}
use Rattle.rx_slots.proofs.Choices.{who_pending}
use Rattle.rx_slots.proofs.Steps.{finish_stays}
use Rattle.rx_slots.proofs.laws.nothing_runs_unreleased.Goals as goal

pub returns-clause-known : goal.returns-clause-known
returns-clause-known c = λ system n job h. (who_pending system n job h).known

pub returns-clause-released : goal.returns-clause-released
returns-clause-released c = λ system n job h. (who_pending system n job h).released

pub returns-clause-stays : goal.returns-clause-stays
returns-clause-stays c = λ system m n job. finish_stays system job m n

pub returns-clause-finished : goal.returns-clause-finished
returns-clause-finished c = λ system m n job h done has. false≢true (sym (who_pending system n job has).unfinished ∙ finish_stays system job m n h done)
