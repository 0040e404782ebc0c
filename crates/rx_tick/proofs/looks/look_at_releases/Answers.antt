use Rattle.rx_tick.proofs.Told.{quiet_releases, quiet_states, append_none}
use Rattle.rx_tick.proofs.looks.look_at_releases.Goals as goal

pub returns-then-now-turn-clause-told : goal.returns-then-now-turn-clause-told
returns-then-now-turn-clause-told c =
    append_none _ _ (quiet_releases c.args.set.now c.args.now c.args.turn.now.next_release c.args.states.now c.requires.states c.if-now-turn.true c.requires.releases)

pub returns-then-now-turn-clause-states : goal.returns-then-now-turn-clause-states
returns-then-now-turn-clause-states c = quiet_states c.args.set.now c.args.now c.args.turn.now.next_release c.args.states.now c.requires.states c.if-now-turn.true c.requires.releases
