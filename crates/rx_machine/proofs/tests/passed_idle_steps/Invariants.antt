use Rattle.rx_machine.specs.Pairs.{AreTwo}
use Rattle.rx_machine.proofs.tests.passed_idle_steps.Given as goal

abbrev pub invariant-loop : goal.invariant-loop
invariant-loop g l = AreTwo l.two.bank l.two.first l.two.second
