use Rattle.rx_slots.proofs.Fitting.{spoils_nobody, tags_stay}
use Rattle.rx_slots.proofs.laws.calls_that_change_nothing_spoil_nobody.Goals as goal

pub returns-clause-spoils : goal.returns-clause-spoils
returns-clause-spoils c = spoils_nobody c.states_are_kept.ensures.replayed c.quiet_calls_stay.ensures.only

pub returns-clause-tag : goal.returns-clause-tag
returns-clause-tag c = tags_stay c.states_are_kept.ensures.replayed c.quiet_calls_stay.ensures.only
