use Rattle.rx_machine.proofs.Running.{run_moved, run_order, run_steps}
use Rattle.rx_machine.proofs.laws.attempts_take_their_steps.Goals as goal

pub returns-clause-steps : goal.returns-clause-steps
returns-clause-steps c old new steps last none on decided run = run_steps old new steps last none on decided run

pub returns-clause-order : goal.returns-clause-order
returns-clause-order c old new steps on run = run_order old new steps on run

pub returns-clause-position : goal.returns-clause-position
returns-clause-position c old new steps on run = (run_moved old new steps on run).position_is
