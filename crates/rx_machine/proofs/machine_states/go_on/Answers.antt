use Rattle.rx_machine.proofs.Idlings.{idle_steps}
use Rattle.rx_machine.proofs.machine_states.go_on.Goals as goal

pub returns-clause-stepped : goal.returns-clause-stepped
returns-clause-stepped g c = idle_steps _ _ _ _ _ c.args.state.now c.requires.going c.in_default.ensures c.if-state.false
