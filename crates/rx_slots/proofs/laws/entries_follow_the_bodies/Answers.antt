use Rattle.rx_slots.proofs.Bodies.{in_turn, follows}
use Rattle.rx_slots.proofs.laws.entries_follow_the_bodies.Goals as goal

pub returns-clause-in_turn : goal.returns-clause-in_turn
returns-clause-in_turn c = in_turn

pub returns-clause-entries : goal.returns-clause-entries
returns-clause-entries c = follows
