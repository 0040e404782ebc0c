use Rattle.std.specs.Prelude.{◌≡◌}
use Rattle.rx_table.specs.Tables.{IsSeatOf}
use Rattle.use_queue.proofs.put_numbers.Given as goal

abbrev pub invariant-loop-v : goal.invariant-loop-v
invariant-loop-v l = record {
  ours : IsSeatOf l.shared l.seat;
  number : l.seat.view.number ≡ l.fn.seat.view.number;
}
