use Rattle.std.proofs.Common.{◌≡◌, List, [], ◌++◌, ◌∙◌, ap, subst}
use Rattle.rx_ledger.specs.declared.events.Event.{Event}
use Rattle.rx_set.specs.Valid.{KeepsCosts}
use Rattle.rx_slots.specs.Admitted.{IsAdmitted}
use Rattle.rx_slots.specs.Events.{misses}
use Rattle.rx_tick.specs.Executive.{Moment}
use Rattle.rx_slots.specs.Schedule.{slots}
use Rattle.rx_slots.proofs.NoMisses.{admitted_sets}
use Rattle.rx_tick.proofs.executive.Executive.late.Goals as goal

pub returns-clause-on_time : goal.returns-clause-on_time
returns-clause-on_time c =
    subst
    (λ (m : Moment). KeepsCosts m.system → IsAdmitted m.system → c.tell_misses.new.events.items ≡ [])
    c.self.view_is
    (λ kept admitted.
    c.tell_misses.ensures.told
    ∙ ap (λ (es : List Event). es ++ misses c.self.inside.set.now (slots c.self.inside.set.now c.self.inside.time)) c.clear.ensures
    ∙ admitted_sets c.self.inside.set.now c.self.invariant.all_states.valid kept admitted c.self.inside.time c.served_sets_miss_nothing.ensures.fixed c.fitting_spans_miss_nothing.ensures.earliest)
