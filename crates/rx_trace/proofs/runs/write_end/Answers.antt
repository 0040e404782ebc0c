use Rattle.std.proofs.Common.{◌≡◌, refl}
use Rattle.rx_io.proofs.Puts.{puts_after, puts_cut, puts_cut_first}
use Rattle.rx_slots.specs.Schedule.{history, slots}
use Rattle.rx_trace.specs.Report.{run_totals}
use Rattle.rx_trace.proofs.Counting.{counts_end}
use Rattle.rx_trace.proofs.Writes.{on_ok}
use Rattle.rx_trace.proofs.runs.write_end.Goals as goal

pub put_objects-requires-clause-stands : goal.put_objects-requires-clause-stands
put_objects-requires-clause-stands g c = (history (slots c.args.set.now c.args.ticks), (c.requires.bank.lawful, c.requires.bank.first))

pub returns-in_err-put_events-clause-puts : goal.returns-in_err-put_events-clause-puts
returns-in_err-put_events-clause-puts g c = puts_cut_first _ _ _ _ _ _ c.from_residual.ensures.0 (rw c.requires.late at c.in_err-put_events.ensures.puts) refl

pub returns-in_err-put_objects-clause-puts : goal.returns-in_err-put_objects-clause-puts
returns-in_err-put_objects-clause-puts g c =
    puts_cut _ _ _ _ _ _ _ _ c.from_residual-in_err-put_objects.ensures.0 (rw c.requires.late at c.in_ok-put_events.ensures.puts)
    (c.in_err-put_objects.ensures (history (slots c.args.set.now c.args.ticks)) (c.requires.bank.lawful, c.requires.bank.first)) refl

pub returns-clause-puts : goal.returns-clause-puts
returns-clause-puts g c =
    let all : c.put_events.new.totals ≡ run_totals c.args.set.now c.args.ticks = counts_end _ _ _ _ _ c.requires.counts c.requires.late c.in_ok-put_events.ensures.totals in
    let objects = c.in_ok-put_objects.ensures (history (slots c.args.set.now c.args.ticks)) (c.requires.bank.lawful, c.requires.bank.first) in
    puts_after _ _ _ _ _ _ (rw c.requires.late at c.in_ok-put_events.ensures.puts) (puts_after _ _ _ _ _ _ objects (rw all at c.put_totals.ensures))

pub returns-clause-totals : goal.returns-clause-totals
returns-clause-totals g c = on_ok _ (counts_end _ _ _ _ _ c.requires.counts c.requires.late c.in_ok-put_events.ensures.totals)
