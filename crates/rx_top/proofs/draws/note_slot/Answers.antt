use Rattle.std.proofs.Common.{◌≡◌, ◌∙◌, ap, arith}
use Rattle.rx_ledger.specs.Counts.{with_slot}
use Rattle.rx_slots.specs.Events.{events_of}
use Rattle.rx_slots.specs.Schedule.{slots, slot_at}
use Rattle.rx_top.proofs.Noting.{noted_next, on_ok_both, times_same}
use Rattle.rx_top.proofs.draws.note_slot.Goals as goal

pub note_events-requires-clause-times : goal.note_events-requires-clause-times
note_events-requires-clause-times c =
    let told : c.as_slice.result.now ≡ events_of c.args.set.now (slots c.args.set.now c.args.executive.now.time) (slot_at c.args.set.now c.args.executive.now.time) = c.as_slice.ensures.value ∙ (rw c.requires.system at c.tick.ensures.events) in
    times_same c.as_slice.result.now (events_of c.args.set.now (slots c.args.set.now c.args.executive.now.time) (slot_at c.args.set.now c.args.executive.now.time)) c.now-now.result c.args.executive.now.time told c.now-now.ensures
    (c.events_have_their_time.ensures.slot c.args.set.now c.args.executive.now.time)

pub returns-clause-noted : goal.returns-clause-noted
returns-clause-noted c =
    let told : c.as_slice.result.now ≡ events_of c.args.set.now (slots c.args.set.now c.args.executive.now.time) (slot_at c.args.set.now c.args.executive.now.time) = c.as_slice.ensures.value ∙ (rw c.requires.system at c.tick.ensures.events) in
    on_ok_both c.note_events.result
    (λ more all. noted_next _ _ _ _ _ _ _ _ _ c.requires.noted (rw c.requires.system at c.tick.ensures.slot) told (omega (arith, c.as_slice.ensures.fits))
    (c.events_have_their_time.ensures.slot c.args.set.now c.args.executive.now.time) more (c.slot.ensures ∙ ap (with_slot c.args.totals.now) c.is_some.ensures) all)
    c.note_events.ensures.noted c.note_events.ensures.totals
