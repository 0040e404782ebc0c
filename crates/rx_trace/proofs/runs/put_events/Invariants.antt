use Rattle.std.proofs.Common.{◌≡◌, fold, take}
use Rattle.rx_io.specs.Causes.{Takes}
use Rattle.rx_ledger.specs.Counts.{counted}
use Rattle.rx_trace.specs.Runs.{lines_of}
use Rattle.rx_trace.proofs.runs.put_events.Given as goal

abbrev pub invariant-loop-event : goal.invariant-loop-event
invariant-loop-event g l = record {
  taken : Takes (g.K.Sink.tells l.initial.sink) (g.K.Sink.tells l.sink) (lines_of l.set (take l.event-index l.events));
  totals : l.totals ≡ fold counted l.initial.totals (take l.event-index l.events);
}
