use Rattle.std.proofs.Common.{◌≡◌, ◌≤◌, ◌-◌}
use Rattle.rx_io.specs.Causes.{Takes}
use Rattle.rx_slots.specs.Events.{events}
use Rattle.rx_trace.specs.Runs.{lines_of, AreCounts}
use Rattle.rx_trace.proofs.runs.write_slots.Given as goal

abbrev pub invariant-loop-executive : goal.invariant-loop-executive
invariant-loop-executive g l = record {
  system : l.executive.system ≡ l.set;
  within : l.executive.time ≤ l.ticks;
  taken : Takes (g.K.Sink.tells l.initial.sink) (g.K.Sink.tells l.sink) (lines_of l.set (events l.set l.executive.time));
  counts : AreCounts l.set l.executive.time l.totals;
}

abbrev pub decreases-loop-executive : goal.decreases-loop-executive
decreases-loop-executive g l = l.ticks - l.executive.time
