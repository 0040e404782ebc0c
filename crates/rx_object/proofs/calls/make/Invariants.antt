use Rattle.std.specs.Prelude.{◌≡◌, ◌-◌, ◌^◌}
use Rattle.rx_port.specs.Core.{tag_after}
use Rattle.rx_shape.specs.Layout.{home}
use Rattle.rx_machine.specs.Operations.{fresh}
use Rattle.rx_table.specs.Tables.{IsSeatOf}
use Rattle.rx_table.specs.Seats.{seen_of}
use Rattle.rx_object.specs.Calls.{HasWaited}
use Rattle.rx_object.proofs.calls.make.Given as goal

abbrev pub invariant-loop-reply : goal.invariant-loop-reply
invariant-loop-reply l = record {
  machine : l.machine ≡ fresh (home l.fn.shared.layout l.fn.object) l.fn.object l.fn.call;
  port : l.port ≡ l.fn.shared;
  ours : IsSeatOf l.fn.shared l.seat;
  waited : HasWaited l.fn.shared.layout l.fn.seat.view l.seat.view l.fn.object l.retries;
}

abbrev pub decreases-loop-reply : goal.decreases-loop-reply
decreases-loop-reply l = 2 ^ 40 - tag_after l.fn.shared.layout (seen_of l.seat.view.known) l.fn.object
