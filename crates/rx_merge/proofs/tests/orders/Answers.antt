use Rattle.rx_merge.proofs.Samples.{cells, short_history, short_are, long_history, long_are, look_history, look_are, add_history, add_are}
use Rattle.rx_merge.proofs.tests.orders.Goals as goal

pub wants-requires : goal.wants-requires
wants-requires g c = rw (c.made-late.ensures, c.made-early.ensures) (cells, short_history, short_are)

pub wants-requires-2 : goal.wants-requires-2
wants-requires-2 g c =
    rw (c.made-zero_writes.ensures, c.made-one_writes.ensures, c.made-one_reads.ensures, c.made-two_writes.ensures, c.made-two_reads.ensures) (cells, long_history, long_are)

pub wants-requires-3 : goal.wants-requires-3
wants-requires-3 g c = rw (c.made-zero_sets.ensures, c.made-one_adds.ensures, c.made-one_looks.ensures) (cells, look_history, look_are)

pub wants-requires-4 : goal.wants-requires-4
wants-requires-4 g c = rw (c.made-zero_looks.ensures, c.made-one_looks_first.ensures, c.made-one_adds_then.ensures) (cells, add_history, add_are)
