use Rattle.rx_table.proofs.Gathering.{last_of, before_last}
use Rattle.rx_object.proofs.tests.lost_attempt.Goals as goal

pub overtaken-steps-requires-clause-first : goal.overtaken-steps-requires-clause-first
overtaken-steps-requires-clause-first g c = before_last c.in-Ok.opened.shared c.in-Ok.opened.seats.items c.pop.new.self.items c.pop-2.new.self.items c.in-Some.second c.in-Some-pop.first c.in-Ok.ensures c.in-Some.ensures.items c.in-Some-pop.ensures.items

pub overtaken-steps-requires-clause-second : goal.overtaken-steps-requires-clause-second
overtaken-steps-requires-clause-second g c = last_of c.in-Ok.opened.shared c.in-Ok.opened.seats.items c.pop.new.self.items c.in-Some.second c.in-Ok.ensures c.in-Some.ensures.items
