use Rattle.std.proofs.Common.{◌≡◌, map}
use Rattle.rx_port.specs.Plain.{view_of}
use Rattle.rx_port.specs.Seats.{seated}
use Rattle.rx_port.proofs.starts.start_seats.Given as goal

abbrev pub invariant-loop-seat : goal.invariant-loop-seat
invariant-loop-seat l = map view_of l.seats.items ≡ seated l.layout l.seat
