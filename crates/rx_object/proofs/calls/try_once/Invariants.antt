use Rattle.std.specs.Prelude.{◌≡◌, ◌-◌}
use Rattle.rx_seq.specs.Table.{attempt_steps}
use Rattle.rx_machine.specs.Operations.{Follows, lost, position}
use Rattle.rx_table.specs.Tables.{IsSeatOf}
use Rattle.rx_object.proofs.Trying.{IsInAttempt}
use Rattle.rx_object.proofs.calls.try_once.Given as goal

abbrev pub invariant-loop-machine : goal.invariant-loop-machine
invariant-loop-machine l = record {
  same : lost l.machine ≡ l.fn.machine;
  live : l.machine.ended ≡ l.fn.machine.ended;
  follows : Follows l.port.layout l.seat.view l.machine;
  port : l.port ≡ l.fn.port;
  ours : IsSeatOf l.port l.seat;
  so_far : IsInAttempt l.port.layout l.machine.object l.fn.seat.view l.seat.view l.machine.progress;
}

abbrev pub decreases-loop-machine : goal.decreases-loop-machine
decreases-loop-machine l = attempt_steps l.fn.machine.place.part - position l.machine
