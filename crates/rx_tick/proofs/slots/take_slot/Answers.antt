use Rattle.std.proofs.Common.{◌∙◌, sym}
use Rattle.rx_tick.proofs.Told.{append_none}
use Rattle.rx_tick.proofs.Moves.{job_here, last_after, known_some, known_none, states_idle, last_idle, told_idle}
use Rattle.rx_tick.proofs.Kept.{kept_idle, touches_idle}
use Rattle.rx_tick.proofs.slots.take_slot.Goals as goal

pub returns-in-Some-clause-turn : goal.returns-in-Some-clause-turn
returns-in-Some-clause-turn c =
    let best = sym c.requires.best ∙ c.in-Some.is in record {
      best = c.give_slot.ensures.best;
      dues = c.give_slot.ensures.dues c.requires.dues;
      releases = c.give_slot.ensures.releases c.requires.releases;
      last = last_after c.args.set.now c.args.now c.args.states.now c.requires.states c.in-Some.job best c.give_slot.new.turn.last (c.give_slot.ensures.last ∙ c.in-Some.is);
      last_known = known_some c.args.set.now c.give_slot.new.turn.last c.in-Some.job (c.give_slot.ensures.last ∙ c.in-Some.is)
          (job_here c.args.set.now c.args.now c.args.states.now c.requires.states c.in-Some.job best c.requires.now);
    }

pub returns-in_default-clause-states : goal.returns-in_default-clause-states
returns-in_default-clause-states c = states_idle c.args.set.now c.args.now c.args.states.now c.requires.states (sym c.requires.best ∙ c.in_default.is)

pub returns-in_default-clause-kept : goal.returns-in_default-clause-kept
returns-in_default-clause-kept c = kept_idle c.args.set.now c.args.now c.args.states.now c.requires.states (sym c.requires.best ∙ c.in_default.is) c.args.objects.now c.requires.kept

pub returns-in_default-clause-touches : goal.returns-in_default-clause-touches
returns-in_default-clause-touches c = touches_idle c.args.set.now c.args.now c.args.states.now c.requires.states (sym c.requires.best ∙ c.in_default.is) c.args.objects.now c.requires.kept

pub returns-in_default-clause-turn : goal.returns-in_default-clause-turn
returns-in_default-clause-turn c = record {
  best = c.requires.best;
  dues = c.requires.dues;
  releases = c.requires.releases;
  last = last_idle c.args.set.now c.args.now c.args.states.now c.requires.states (sym c.requires.best ∙ c.in_default.is) c.args.turn.now.best c.in_default.is;
  last_known = known_none c.args.set.now c.args.turn.now.best c.in_default.is;
}

pub returns-in_default-clause-told : goal.returns-in_default-clause-told
returns-in_default-clause-told c = append_none _ _ (told_idle c.args.set.now c.args.now c.args.states.now c.requires.states (sym c.requires.best ∙ c.in_default.is))
