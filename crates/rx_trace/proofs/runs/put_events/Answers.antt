use Rattle.std.proofs.Common.{arith}
use Rattle.rx_io.proofs.Puts.{puts_cut, takes_next}
use Rattle.rx_trace.proofs.Counting.{counted_taken, small_so_far}
use Rattle.rx_report.specs.Lines.{event_line}
use Rattle.rx_trace.proofs.Lines.{line_around, line_next}
use Rattle.rx_trace.proofs.runs.put_events.Goals as goal

pub count-requires : goal.count-requires
count-requires g c = small_so_far _ _ _ _ c.loop-event.invariant.totals c.requires.few c.requires.small

pub returns-in_err-put-clause-puts : goal.returns-in_err-put-clause-puts
returns-in_err-put-clause-puts g c =
    puts_cut _ _ _ _ _ _ _ _ c.from_residual.ensures.0 c.loop-event.invariant.taken
    (rw (c.as_slice.ensures.value, c.make_event.ensures) at c.in_err-put.ensures)
    (line_around (event_line c.args.set.now) c.args.events.now c.loop-event.event-index _ (omega arith))

pub loop-event-preserved : goal.loop-event-preserved
loop-event-preserved g c = record {
  taken = takes_next _ _ _ _ _ _ c.loop-event.invariant.taken (rw (c.as_slice.ensures.value, c.make_event.ensures) at c.in_ok-put.ensures)
      (line_next (event_line c.args.set.now) c.args.events.now c.loop-event.event-index _ (omega arith));
  totals = counted_taken _ _ _ c.args.events.now c.loop-event.event-index _ c.loop-event.invariant.totals (omega arith) c.count.ensures;
}
