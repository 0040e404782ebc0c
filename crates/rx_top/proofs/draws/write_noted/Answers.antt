use Rattle.std.proofs.Common.{refl}
use Rattle.rx_io.proofs.Puts.{puts_after, puts_cut, puts_cut_first}
use Rattle.rx_slots.specs.Schedule.{history, slots}
use Rattle.rx_top.specs.Drawn.{first_windows, window_report}
use Rattle.rx_trace.specs.Report.{reported_events}
use Rattle.rx_top.proofs.draws.write_noted.Goals as goal

pub returns-in_err-put_windows : goal.returns-in_err-put_windows
returns-in_err-put_windows g c = λ ticks run. puts_cut_first _ _ _ (first_windows (reported_events c.args.set.now ticks) 10) _ (window_report c.args.set.now ticks) c.from_residual.ensures.0 (rw run.events_are at c.in_err-put_windows.ensures) refl

pub returns-in_err-put_objects : goal.returns-in_err-put_objects
returns-in_err-put_objects g c = λ ticks run.
    puts_cut _ _ _ _ (first_windows (reported_events c.args.set.now ticks) 10) _ _ (window_report c.args.set.now ticks) c.from_residual-in_err-put_objects.ensures.0 (rw run.events_are at c.in_ok-put_windows.ensures)
    (c.in_err-put_objects.ensures (history (slots c.args.set.now ticks)) (run.stands.lawful, run.stands.first)) refl

pub returns : goal.returns
returns g c = λ ticks run.
    let objects = c.in_ok-put_objects.ensures (history (slots c.args.set.now ticks)) (run.stands.lawful, run.stands.first) in
    puts_after _ _ _ _ (first_windows (reported_events c.args.set.now ticks) 10) _ (rw run.events_are at c.in_ok-put_windows.ensures) (puts_after _ _ _ _ _ _ objects (rw run.totals_are at c.put_totals.ensures))
