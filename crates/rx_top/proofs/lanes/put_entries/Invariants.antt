use Rattle.std.proofs.Common.{map, take}
use Rattle.rx_io.specs.Causes.{Takes}
use Rattle.rx_report.specs.LaneLines.{entry_line}
use Rattle.rx_top.proofs.lanes.put_entries.Given as goal

abbrev pub invariant-loop-entry : goal.invariant-loop-entry
invariant-loop-entry g l = record { taken : Takes (g.K.Sink.tells l.initial.sink) (g.K.Sink.tells l.sink) (map (entry_line l.set) (take l.entry-index l.entries)) }
