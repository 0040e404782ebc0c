use Rattle.std.specs.Prelude.{◌≡◌}
use Rattle.rx_table.specs.Tables.{IsSeatOf}
use Rattle.rx_object.proofs.thread_tests.Worker.run.Given as goal

abbrev pub invariant-loop-step : goal.invariant-loop-step
invariant-loop-step l = record {
  ours : IsSeatOf l.shared l.self.seat;
  number : l.self.seat.view.number ≡ l.fn.self.seat.view.number;
}
