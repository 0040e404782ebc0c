use Rattle.rx_machine.proofs.Writes.{writable, wrote_steps}
use Rattle.rx_machine.proofs.machine_states.write.Goals as goal

pub write-requires-clause-open : goal.write-requires-clause-open
write-requires-clause-open g c = writable _ _ _ c.requires.going c.args.write c.requires.next

pub returns-clause-stepped : goal.returns-clause-stepped
returns-clause-stepped g c = wrote_steps _ _ _ _ _ _ _ c.args.state.now c.requires.going c.args.write c.requires.next c.write.ensures.event
