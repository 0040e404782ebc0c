use Rattle.rx_tick.proofs.Told.{quiet_misses, due_still, append_none}
use Rattle.rx_tick.proofs.looks.look_at_dues.Goals as goal

pub returns-then-now-turn-clause-told : goal.returns-then-now-turn-clause-told
returns-then-now-turn-clause-told c = append_none _ _ (quiet_misses c.args.set.now c.args.now c.args.turn.now.next_due c.args.states.now c.requires.states c.if-now-turn.true c.requires.dues)

pub returns-then-now-turn-clause-dues : goal.returns-then-now-turn-clause-dues
returns-then-now-turn-clause-dues c = due_still c.args.set.now c.args.now c.args.turn.now.next_due c.args.states.now c.requires.dues
