use Rattle.std.proofs.Common.{ap, map, sym}
use Rattle.std.proofs.lemmas.List.{set-get_or}
use Rattle.rx_ledger.specs.declared.events.Event.TheVariants.{Release}
use Rattle.rx_slots.specs.Schedule.{slots}
use Rattle.rx_tick.specs.States.{no_state, state_at}
use Rattle.rx_tick.proofs.Told.{released_none, append_none}
use Rattle.rx_tick.proofs.looks.look_at_release.Goals as goal

pub returns-then-state-now-clause-told : goal.returns-then-state-now-clause-told
returns-then-state-now-clause-told c =
    let past = slots c.args.set.now c.args.now in
    append_none _ _ (ap (map (Release c.args.now)) (released_none c.args.set.now past c.args.now c.args.task (state_at c.args.states.now c.args.task) c.requires.state c.requires.valid c.requires.known c.if-state-now.true))

pub returns-then-state-now-clause-write : goal.returns-then-state-now-clause-write
returns-then-state-now-clause-write c = sym (set-get_or c.args.states.now c.args.task no_state)
