use Rattle.rx_table.specs.Tables.{AreSeats}
use Rattle.rx_object.proofs.tests.longest_list.Given as goal

abbrev pub invariant-loop-k : goal.invariant-loop-k
invariant-loop-k g l = AreSeats l.opened.shared l.opened.seats.items

abbrev pub invariant-loop-k-2 : goal.invariant-loop-k-2
invariant-loop-k-2 g l = AreSeats l.opened.shared l.opened.seats.items
