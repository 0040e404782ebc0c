use Rattle.std.specs.Prelude.{◌≡◌}
use Rattle.rx_table.specs.Tables.{IsSeatOf}
use Rattle.use_queue.proofs.take_numbers.Given as goal

abbrev pub invariant-loop : goal.invariant-loop
invariant-loop l = record {
  ours : IsSeatOf l.shared l.seat;
  number : l.seat.view.number ≡ l.fn.seat.view.number;
}
