use Rattle.rx_machine.proofs.Joinings.{joined}
use Rattle.rx_machine.proofs.machine_states.make_step.Goals as goal

pub returns-clause-stepped : goal.returns-clause-stepped
returns-clause-stepped g c = joined _ _ _ _ _ _ _ c.args.state.now c.settle.new.state c.go_on.new.state c.go_on.result c.settle.ensures c.go_on.ensures.stepped
