use Rattle.std.specs.Prelude.{◌≡◌, ◌≤◌, length}
use Rattle.rx_table.specs.Tables.{AreNew}
use Rattle.rx_table.proofs.tables.all_seats.Given as goal

abbrev pub invariant-loop-number : goal.invariant-loop-number
invariant-loop-number l = record {
  some : 1 ≤ l.number;
  many : length l.seats.items ≡ l.number;
  new : AreNew (record { layout = l.layout; table = l.words.table_id }) l.seats.items;
}
