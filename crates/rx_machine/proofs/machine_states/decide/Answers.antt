use Rattle.rx_machine.proofs.Decisions.{ready, won_steps, lost_steps}
use Rattle.rx_machine.proofs.machine_states.decide.Goals as goal

pub decide-found-requires-clause-ready : goal.decide-found-requires-clause-ready
decide-found-requires-clause-ready g c = ready _ _ c.args.state.now c.requires.going c.requires.none

pub returns-then-found-state-clause-stepped : goal.returns-then-found-state-clause-stepped
returns-then-found-state-clause-stepped g c = won_steps _ _ _ _ _ _ _ c.args.state.now c.requires.going c.requires.none c.requires.last c.decide-found.result c.decide-found.ensures.event c.tag_of.result c.if-found-state.true c.tag_of.ensures.value

pub returns-clause-stepped : goal.returns-clause-stepped
returns-clause-stepped g c = lost_steps _ _ _ _ _ _ _ c.args.state.now c.requires.going c.requires.none c.requires.last c.decide-found.result c.decide-found.ensures.event c.if-found-state.false
