use Rattle.rx_shape.proofs.Settling.{one_reply}
use Rattle.rx_shape.proofs.laws.settled_calls_have_one_plan.Goals as goal

pub returns-clause-reply : goal.returns-clause-reply
returns-clause-reply c home call root taken words others settled one other = one_reply home call root taken words others settled one other

pub returns-clause-plan : goal.returns-clause-plan
returns-clause-plan c home call root taken own settled tag stock ranges once = settled.plan tag own stock ranges once
