use Rattle.rx_fixed.proofs.Served.{AreServed}
use Rattle.rx_fixed.proofs.verdicts.test.Given as goal

abbrev pub invariant-loop-served : goal.invariant-loop-served
invariant-loop-served l = AreServed l.set l.served
