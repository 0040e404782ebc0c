use Rattle.rx_table.proofs.Gathering.{last_of, before_last}
use Rattle.rx_table.proofs.tests.two_threads.Goals as goal

pub both_begin-first-requires-clause-first : goal.both_begin-first-requires-clause-first
both_begin-first-requires-clause-first g c _ =
    before_last c.in-Ok.opened.shared c.in-Ok.opened.seats.items c.pop.new.self.items c.pop-2.new.self.items c.in-Some.second c.in-Some-pop.first c.in-Ok.ensures.seats c.in-Some.ensures.items c.in-Some-pop.ensures.items

pub both_begin-first-requires-clause-second : goal.both_begin-first-requires-clause-second
both_begin-first-requires-clause-second g c _ = last_of c.in-Ok.opened.shared c.in-Ok.opened.seats.items c.pop.new.self.items c.in-Some.second c.in-Ok.ensures.seats c.in-Some.ensures.items
