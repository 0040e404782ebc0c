use Rattle.std.proofs.Common.{[]}
use Rattle.rx_table.proofs.Moves.{opens}
use Rattle.rx_table.proofs.NewSeats.{new_seats}
use Rattle.rx_table.proofs.tables.Shared.new.Goals as goal

pub of_words-requires : goal.of_words-requires
of_words-requires c =
    let limits = rw (c.layout.view_is) at c.layout.invariant in rw (c.as_slice.ensures.value) (opens c.args.layout c.in_ok-words.words.items [] limits.0 c.in_ok-words.ensures)

pub returns-clause-seats : goal.returns-clause-seats
returns-clause-seats c = new_seats (record { layout = c.args.layout; table = c.in-Ok.pair.0.shared.table_id }) c.in_ok-seats.seats.items c.in_ok-seats.ensures.many c.in_ok-seats.ensures.fresh
