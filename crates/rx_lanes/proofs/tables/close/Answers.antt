use Rattle.std.proofs.Common.{◌∙◌, length, ap, arith}
use Rattle.std.proofs.lemmas.List.{length-map}
use Rattle.rx_shape.specs.Layout.{Layout}
use Rattle.rx_lanes.specs.Lanes.{answers_of}
use Rattle.rx_lanes.proofs.Merging.{callers_at}
use Rattle.rx_lanes.proofs.Seats.{lanes_seats, lanes_many, all_kept}
use Rattle.rx_lanes.proofs.tables.close.Goals as goal

pub take_apart-seats-requires-clause-seats : goal.take_apart-seats-requires-clause-seats
take_apart-seats-requires-clause-seats c = (c.requires.seats.0, omega (arith, c.requires.seats.1, lanes_many c.args.workers c.args.lanes.items c.requires.lanes))

pub take_apart-seats-requires-clause-answers : goal.take_apart-seats-requires-clause-answers
take_apart-seats-requires-clause-answers c = (c.requires.answers.0, omega (arith, c.requires.answers.1, lanes_many c.args.workers c.args.lanes.items c.requires.lanes))

pub close-requires : goal.close-requires
close-requires c =
    lanes_seats c.args.shared c.args.set.now c.args.jobs c.args.workers c.args.lanes.items c.take_apart-seats.result.0.items (ap (λ (l : Layout). l.seats) c.requires.layout) c.take_apart-seats.ensures.seats c.requires.lanes c.requires.run

pub returns-in-Ok-clause-many : goal.returns-in-Ok-clause-many
returns-in-Ok-clause-many c = ap length c.take_apart-seats.ensures.answers ∙ length-map c.args.lanes.items answers_of ∙ lanes_many c.args.workers c.args.lanes.items c.requires.lanes

pub returns-in-Ok-clause-kept : goal.returns-in-Ok-clause-kept
returns-in-Ok-clause-kept c =
    all_kept c.args.shared c.args.set.now c.args.jobs c.args.workers c.in-Ok.closed.history c.args.lanes.items c.take_apart-seats.result.0.items c.take_apart-seats.result.1.items
    c.tasks-tasks.ensures.valid c.requires.limits.2 c.requires.limits.1 c.requires.layout c.take_apart-seats.ensures.seats c.take_apart-seats.ensures.answers c.requires.lanes c.requires.run
    c.in-Ok.ensures.seats (callers_at c.args.set.now c.args.workers c.in-Ok.closed.layout c.in-Ok.closed.history (c.in-Ok.ensures.layout ∙ c.requires.layout) c.layout-layout.ensures.ended.callers)
