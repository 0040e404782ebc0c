use Rattle.rx_slots.proofs.Decisions.{preemption_true, true_preemption}
use Rattle.rx_slots.proofs.Preemptions.{preempting_released, preempting_below}
use Rattle.rx_slots.proofs.laws.preemptions_are_releases.Goals as goal

pub returns-clause-told : goal.returns-clause-told
returns-clause-told c = λ system n at job by. (preemption_true system n at job by, λ h. true_preemption system n at job by h.0 h.1)

pub returns-clause-released : goal.returns-clause-released
returns-clause-released c = λ system n at job by valid h. preempting_released system at job by valid (preemption_true system n at job by h).1

pub returns-clause-below : goal.returns-clause-below
returns-clause-below c = λ system n at job by valid h. preempting_below system at job by valid (preemption_true system n at job by h).1
