use Rattle.rx_io.specs.Causes.{Takes}
use Rattle.rx_top.specs.Drawn.{first_windows}
use Rattle.rx_top.proofs.draws.put_windows.Given as goal

abbrev pub invariant-loop-place : goal.invariant-loop-place
invariant-loop-place g l = record { taken : Takes (g.K.Sink.tells l.initial.sink) (g.K.Sink.tells l.sink) (first_windows l.ledger l.place) }
