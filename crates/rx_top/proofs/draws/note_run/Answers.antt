use Rattle.std.proofs.Common.{◌∙◌}
use Rattle.rx_trace.proofs.Banks.{bank_left}
use Rattle.rx_top.proofs.Noting.{run_noted}
use Rattle.rx_top.proofs.draws.note_run.Goals as goal

pub returns-clause-run : goal.returns-clause-run
returns-clause-run c =
    run_noted _ _ _ _ _ _ _ _ _ c.in_ok-note_slots.ensures.end c.in_ok-note_slots.ensures.noted (c.as_slice.ensures.value ∙ c.late.ensures.events) c.in_ok-note_events.ensures.noted c.in_ok-note_events.ensures.totals
    c.into_bank-bank.ensures.history

pub returns-clause-bank : goal.returns-clause-bank
returns-clause-bank c =
    bank_left _ _ _ _ c.in_ok-note_slots.ensures.end (c.replies_and_retries_are_told.ensures.count c.args.set.now c.args.ticks) c.into_bank-bank.ensures.history
    c.into_bank-bank.ensures.sums
