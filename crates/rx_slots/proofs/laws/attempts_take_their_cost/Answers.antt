use Rattle.rx_slots.proofs.Attempts.{decision_is, decided_begun, decided_cost, decided_amid, lost_spoiled, spoiled_lost}
use Rattle.rx_slots.proofs.laws.attempts_take_their_cost.Goals as goal

pub returns-clause-begins : goal.returns-clause-begins
returns-clause-begins c = λ system n object job outcome e.
    let begun = decided_begun system n job object outcome e in (begun.before, begun.begins, begun.fresh)

pub returns-clause-item : goal.returns-clause-item
returns-clause-item c = λ system n object job outcome e.
    let is = decision_is system n job object outcome e in ((decided_begun system n job object outcome e).item, (is.call, is.asks))

pub returns-clause-made : goal.returns-clause-made
returns-clause-made c = λ system n object job outcome e. (decision_is system n job object outcome e).made

pub returns-clause-cost : goal.returns-clause-cost
returns-clause-cost c = λ system n object job outcome. decided_cost system n job object outcome

pub returns-clause-steps : goal.returns-clause-steps
returns-clause-steps c = λ system m n object job outcome. decided_amid system m n job object outcome

pub returns-clause-outcome : goal.returns-clause-outcome
returns-clause-outcome c = λ system n object job outcome e. (lost_spoiled system n job object outcome e, spoiled_lost system n job object outcome e)
