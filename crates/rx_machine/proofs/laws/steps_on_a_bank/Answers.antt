use Rattle.rx_machine.proofs.Banking.{step_on}
use Rattle.rx_machine.proofs.laws.steps_on_a_bank.Goals as goal

pub returns : goal.returns
returns c old now seat other machine after step is f t = step_on old now seat other machine after is f step t
