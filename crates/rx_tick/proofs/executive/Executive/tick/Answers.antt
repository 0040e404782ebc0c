use Rattle.std.proofs.Common.{ℕ, ◌≡◌, ◌≢◌, ◌≤◌, ◌+◌, ◌∙◌, ap, subst}
use Rattle.std.specs.Prelude.{count_by}
use Rattle.rx_ledger.specs.Counts.{is_miss}
use Rattle.rx_ledger.specs.Intervals.{any_job, preemptions, releases, retries}
use Rattle.rx_set.specs.Valid.{KeepsCosts}
use Rattle.rx_set.specs.declared.policies.Policy.TheVariants.{Edf}
use Rattle.rx_slots.specs.Admitted.{IsAdmitted}
use Rattle.rx_tick.specs.Banks.{Touches}
use Rattle.rx_slots.specs.Charges.{of_rank_below, of_rank_to}
use Rattle.rx_slots.specs.Schedule.{slots, slot_at, job_in}
use Rattle.rx_slots.specs.Events.{events, events_of}
use Rattle.rx_tick.specs.Executive.{Moment}
use Rattle.rx_slots.proofs.NoMisses.{admitted_sets, slot_misses}
use Rattle.rx_tick.proofs.executive.Executive.tick.Goals as goal

pub returns-clause-slot : goal.returns-clause-slot
returns-clause-slot c = c.make_slot.ensures.slot ∙ ap (λ (m : Moment). job_in (slot_at m.system m.time)) c.self.view_is

pub returns-clause-events : goal.returns-clause-events
returns-clause-events c = c.make_slot.ensures.told ∙ ap (λ (m : Moment). events_of m.system (slots m.system m.time) (slot_at m.system m.time)) c.self.view_is

pub returns-clause-touches : goal.returns-clause-touches
returns-clause-touches c =
    subst (λ (m : Moment). Touches m.system (slots m.system m.time) (slot_at m.system m.time) m.bank c.make_slot.new.objects.bank) c.self.view_is c.make_slot.ensures.touches

pub returns-clause-charge : goal.returns-clause-charge
returns-clause-charge c =
    subst
    (λ (m : Moment). (a b : ℕ) → retries any_job a b (events m.system (m.time + 1)) ≤ preemptions any_job a b (events m.system (m.time + 1)))
    c.self.view_is
    (λ a b. c.retries_are_bounded.ensures.all c.self.inside.set.now (c.self.inside.time + 1) a b c.self.invariant.all_states.valid)

pub returns-clause-ranks : goal.returns-clause-ranks
returns-clause-ranks c =
    subst
    (λ (m : Moment). m.system.policy ≢ Edf → (place a b : ℕ) → retries (of_rank_to m.system place) a b (events m.system (m.time + 1)) ≤ releases (of_rank_below m.system place) a b (events m.system (m.time + 1)))
    c.self.view_is
    (λ fixed place a b. c.retries_are_bounded.ensures.ranks c.self.inside.set.now (c.self.inside.time + 1) place a b c.self.invariant.all_states.valid fixed)

pub returns-clause-on_time : goal.returns-clause-on_time
returns-clause-on_time c =
    subst
    (λ (m : Moment). KeepsCosts m.system → IsAdmitted m.system → count_by is_miss c.make_slot.new.events.items ≡ 0)
    c.self.view_is
    (λ kept admitted.
    ap (count_by is_miss) c.make_slot.ensures.told
    ∙ slot_misses c.self.inside.set.now (slots c.self.inside.set.now c.self.inside.time) (slot_at c.self.inside.set.now c.self.inside.time)
    (admitted_sets c.self.inside.set.now c.self.invariant.all_states.valid kept admitted c.self.inside.time c.served_sets_miss_nothing.ensures.fixed c.fitting_spans_miss_nothing.ensures.earliest))
