use Rattle.std.proofs.Common.{arith}
use Rattle.rx_machine.proofs.Passings.{passed_on}
use Rattle.rx_machine.proofs.machine_states.pass_idle.Goals as goal

pub returns : goal.returns
returns c = passed_on c.args.state.now c.requires.state (omega (arith, c.if-state-eq0.false)) (c.in_default.ensures)
