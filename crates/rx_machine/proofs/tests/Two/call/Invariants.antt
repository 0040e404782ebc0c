use Rattle.std.proofs.Common.{◌≤◌}
use Rattle.rx_machine.specs.Pairs.{AreTwo}
use Rattle.rx_machine.proofs.tests.Two.call.Given as goal

abbrev pub invariant-loop : goal.invariant-loop
invariant-loop l = record { two : AreTwo l.self.bank l.self.first l.self.second; going : l.going ≤ l.counter; idle : l.idle ≤ l.counter }
