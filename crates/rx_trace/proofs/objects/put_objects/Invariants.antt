use Rattle.std.proofs.Common.{List}
use Rattle.rx_io.specs.Causes.{Takes}
use Rattle.rx_seq.specs.declared.entries.Entry.{Entry}
use Rattle.rx_trace.specs.Report.{first_objects}
use Rattle.rx_trace.proofs.objects.put_objects.Given as goal

abbrev pub invariant-loop-object : goal.invariant-loop-object
invariant-loop-object g l = record {
  taken : (history : List Entry) → g.O.Objects.stands l.objects history → Takes (g.K.Sink.tells l.initial.sink) (g.K.Sink.tells l.sink) (first_objects l.set history l.object);
}
