use Rattle.rx_machine.proofs.Readings.{read_steps}
use Rattle.rx_machine.proofs.machine_states.read.Goals as goal

pub returns-clause-stepped : goal.returns-clause-stepped
returns-clause-stepped g c = read_steps _ _ _ _ _ _ _ c.args.state.now c.requires.going c.args.place c.read-word.result c.requires.next c.read-word.ensures.event c.take.new.self (c.take.ensures.taken c.args.state.now.root c.args.place c.requires.next.next) c.take.ensures.home c.take.ensures.asked
