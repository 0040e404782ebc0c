use Rattle.std.proofs.Common.{arith}
use Rattle.rx_machine.proofs.Beginnings.{loaded_steps}
use Rattle.rx_machine.proofs.machine_states.begin.Goals as goal

pub returns-clause-stepped : goal.returns-clause-stepped
returns-clause-stepped g c =
    loaded_steps _ _ _ _ _ _ _ c.args.state.now c.requires.state c.requires.first c.requires.follows c.begin-state.result c.begin-state.ensures.event
    (let tag = c.tag_of-tag.ensures.value in let bound = c.tag_of-tag.ensures.bound in omega arith) c.restart.new.self (c.restart.ensures.taken c.begin-state.result) c.restart.ensures.home c.restart.ensures.asked
