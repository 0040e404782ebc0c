use Rattle.rx_table.proofs.Gathering.{seen_from}
use Rattle.rx_table.proofs.tables.Shared.end.Goals as goal

pub gather-last-requires-clause-seats : goal.gather-last-requires-clause-seats
gather-last-requires-clause-seats c number seat at =
    let one = rw (← c.self.view_is) at ((c.requires.seats.each number seat at).0) in rw (c.self.invariant.0) one

pub returns-clause-seats : goal.returns-clause-seats
returns-clause-seats c number seat at =
    seen_from c.finish.result.history c.args.seats.items c.gather-last.result.view number seat at c.gather-last.ensures.carries c.finish.ensures.seats (c.requires.seats.each number seat at).0.keeps
