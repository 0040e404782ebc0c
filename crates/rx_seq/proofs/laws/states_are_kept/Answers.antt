use Rattle.rx_seq.proofs.Kept.{state_kept, state_bounded, replay_kept}
use Rattle.rx_seq.proofs.laws.states_are_kept.Goals as goal

pub returns-clause-next : goal.returns-clause-next
returns-clause-next c = λ part state call _ is fits. state_kept part state call is fits

pub returns-clause-replayed : goal.returns-clause-replayed
returns-clause-replayed c = replay_kept

pub returns-clause-bounded : goal.returns-clause-bounded
returns-clause-bounded c = state_bounded
