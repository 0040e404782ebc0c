use Rattle.std.proofs.Common.{◌≡◌, ◌++◌, drop}
use Rattle.rx_port.specs.Plain.{lists}
use Rattle.rx_port.specs.Seats.{starts}
use Rattle.rx_port.proofs.starts.own_of_seat.Given as goal

abbrev pub invariant-loop-object : goal.invariant-loop-object
invariant-loop-object l = lists l.own.items ++ starts l.layout l.seat l.object (drop l.object l.layout.parts) ≡ starts l.layout l.seat 0 l.layout.parts
