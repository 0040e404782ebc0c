use Rattle.std.proofs.Common.{ap, ◌∙◌, sym, subst}
use Rattle.rx_table.specs.Tables.{SeatView, IsSeatOf}
use Rattle.rx_object.proofs.Seating.{two_of}
use Rattle.rx_object.proofs.thread_tests.run_both.Goals as goal

pub both_run-first-requires-clause-first : goal.both_run-first-requires-clause-first
both_run-first-requires-clause-first g c κs within =
    subst (λ (s : SeatView). IsSeatOf c.in-Ok.opened.shared s) (sym c.in_ok-first.ensures)
    (two_of c.in-Ok.opened.shared c.in-Ok.opened.seats.items c.pop.new.self.items c.pop-2.new.self.items c.in-Some-pop.first c.in-Some.second c.in-Ok.ensures.seats c.in-Ok.ensures.two c.in-Some.ensures.items c.in-Some-pop.ensures.items).0.0

pub both_run-first-requires-clause-second : goal.both_run-first-requires-clause-second
both_run-first-requires-clause-second g c κs within =
    subst (λ (s : SeatView). IsSeatOf c.in-Ok.opened.shared s) (sym c.in_ok-second.ensures)
    (two_of c.in-Ok.opened.shared c.in-Ok.opened.seats.items c.pop.new.self.items c.pop-2.new.self.items c.in-Some-pop.first c.in-Some.second c.in-Ok.ensures.seats c.in-Ok.ensures.two c.in-Some.ensures.items c.in-Some-pop.ensures.items).1.0

pub close-requires-clause-first : goal.close-requires-clause-first
close-requires-clause-first g c =
    let two = two_of c.in-Ok.opened.shared c.in-Ok.opened.seats.items c.pop.new.self.items c.pop-2.new.self.items c.in-Some-pop.first c.in-Some.second c.in-Ok.ensures.seats c.in-Ok.ensures.two c.in-Some.ensures.items c.in-Some-pop.ensures.items in
    (c.both_run-first.ensures.first.0, c.both_run-first.ensures.first.1 ∙ ap (λ (s : SeatView). s.view.number) c.in_ok-first.ensures ∙ two.0.1)

pub close-requires-clause-second : goal.close-requires-clause-second
close-requires-clause-second g c =
    let two = two_of c.in-Ok.opened.shared c.in-Ok.opened.seats.items c.pop.new.self.items c.pop-2.new.self.items c.in-Some-pop.first c.in-Some.second c.in-Ok.ensures.seats c.in-Ok.ensures.two c.in-Some.ensures.items c.in-Some-pop.ensures.items in
    (c.both_run-first.ensures.second.0, c.both_run-first.ensures.second.1 ∙ ap (λ (s : SeatView). s.view.number) c.in_ok-second.ensures ∙ two.1.1)
