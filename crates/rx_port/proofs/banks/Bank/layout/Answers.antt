use Rattle.std.proofs.Common.{arith}
use Rattle.rx_port.specs.Plain.{whole_of}
use Rattle.rx_port.proofs.BankSteps.{seat_from}
use Rattle.rx_port.proofs.banks.Bank.layout.Goals as goal

pub returns-clause-ours : goal.returns-clause-ours
returns-clause-ours c = rw (← c.self.view_is) (λ seat below. seat_from (whole_of c.self.inside.layout c.self.inside.words.items c.self.inside.seats.items c.self.inside.counts) c.self.invariant seat (let many = c.self.invariant.many in omega arith))
