use Rattle.std.proofs.Common.{arith}
use Rattle.rx_report.specs.LaneLines.{entry_line}
use Rattle.rx_io.proofs.Puts.{puts_cut, takes_next}
use Rattle.rx_trace.proofs.Lines.{line_around, line_next}
use Rattle.rx_top.proofs.lanes.put_entries.Goals as goal

pub returns-in_err-put : goal.returns-in_err-put
returns-in_err-put g c =
    puts_cut _ _ _ _ _ _ _ _ c.from_residual.ensures.0 c.loop-entry.invariant.taken
    (rw (c.as_slice.ensures.value, c.make_entry.ensures) at c.in_err-put.ensures)
    (line_around (entry_line c.args.set.now) c.args.entries.now c.loop-entry.entry-index _ (omega arith))

pub loop-entry-preserved : goal.loop-entry-preserved
loop-entry-preserved g c = record {
  taken = takes_next _ _ _ _ _ _ c.loop-entry.invariant.taken (rw (c.as_slice.ensures.value, c.make_entry.ensures) at c.in_ok-put.ensures)
      (line_next (entry_line c.args.set.now) c.args.entries.now c.loop-entry.entry-index _ (omega arith));
}
