use Rattle.rx_machine.proofs.Pairs.{two_on}
use Rattle.rx_machine.proofs.tests.both_on.Goals as goal

pub returns : goal.returns
returns c =
    two_on c.in_ok-layout.layout c.in_ok-bank.bank c.args.part c.args.tag c.args.first c.args.second c.start-first.result c.start-second.result c.in_ok-layout.ensures c.in_ok-bank.ensures.layout c.in_ok-bank.ensures.ours (cc) (cc)
    c.start-first.ensures c.start-second.ensures
