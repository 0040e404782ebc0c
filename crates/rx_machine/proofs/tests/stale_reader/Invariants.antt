use Rattle.rx_machine.specs.Pairs.{AreTwo}
use Rattle.rx_machine.proofs.tests.stale_reader.Given as goal

abbrev pub invariant-loop : goal.invariant-loop
invariant-loop g l = AreTwo l.two.bank l.two.first l.two.second

abbrev pub invariant-loop-2 : goal.invariant-loop-2
invariant-loop-2 g l = AreTwo l.two.bank l.two.first l.two.second
