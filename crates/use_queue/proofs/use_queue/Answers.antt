use Rattle.std.proofs.Common.{ap, ◌∙◌}
use Rattle.rx_shape.specs.Layout.{Layout}
use Rattle.rx_object.proofs.Seating.{two_of, are_two}
use Rattle.use_queue.proofs.use_queue.Goals as goal

pub run_both-first-requires-clause-seats : goal.run_both-first-requires-clause-seats
run_both-first-requires-clause-seats g c κs within =
    let two = ap (λ (l : Layout). l.seats) (c.in_ok-shared.ensures.layout ∙ c.in_ok-layout.ensures) in
    let seats = two_of c.in_ok-shared.field-0.shared c.in_ok-shared.field-0.seats.items c.pop.new.self.items c.pop-2.new.self.items c.in-Some-pop.first c.in-Some.second c.in_ok-shared.ensures.seats two c.in-Some.ensures.items c.in-Some-pop.ensures.items in
    (seats.0.0, seats.1.0)

pub close-requires : goal.close-requires
close-requires g c =
    let two = ap (λ (l : Layout). l.seats) (c.in_ok-shared.ensures.layout ∙ c.in_ok-layout.ensures) in
    let seats = two_of c.in_ok-shared.field-0.shared c.in_ok-shared.field-0.seats.items c.pop.new.self.items c.pop-2.new.self.items c.in-Some-pop.first c.in-Some.second c.in_ok-shared.ensures.seats two c.in-Some.ensures.items c.in-Some-pop.ensures.items in
    let first = c.run_both-first.ensures.first in
    let second = c.run_both-first.ensures.second in
    are_two c.in_ok-shared.field-0.shared c.in-Ok.seats.items c.run_both-first.result.0.0 c.run_both-first.result.1.0 two (first.0, first.1 ∙ seats.0.1) (second.0, second.1 ∙ seats.1.1) c.in-Ok.ensures.items
