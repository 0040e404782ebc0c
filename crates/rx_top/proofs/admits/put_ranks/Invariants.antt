use Rattle.rx_io.specs.Causes.{Takes}
use Rattle.rx_trace.specs.Tests.{first_ranks}
use Rattle.rx_top.proofs.admits.put_ranks.Given as goal

abbrev pub invariant-loop-place : goal.invariant-loop-place
invariant-loop-place g l = record { taken : Takes (g.K.Sink.tells l.initial.sink) (g.K.Sink.tells l.sink) (first_ranks l.set l.place) }
