use Rattle.std.proofs.Common.{ℕ, sym, ap, ◌∙◌, subst}
use Rattle.rx_shape.specs.Layout.{Layout}
use Rattle.rx_machine.specs.Operations.{Operation}
use Rattle.rx_object.proofs.Trying.{IsInAttempt, going_on, goes_next, won_so, lost_so, spent_so, same_port}
use Rattle.rx_object.proofs.calls.try_once.Goals as goal

pub loop-machine-preserved-in-Going : goal.loop-machine-preserved-in-Going
loop-machine-preserved-in-Going c =
    let l = c.loop-machine.port.layout in
    let old = c.loop-machine.machine in
    let new = c.step.new.self in
    let next = goes_next l _ _ c.args.seat.now.view c.loop-machine.seat.view c.step.new.seat.view old new c.in-Going.ensures.tells in
    let on = going_on l _ _ c.args.seat.now.view c.loop-machine.seat.view c.step.new.seat.view old new c.in-Going.ensures.tells c.loop-machine.invariant.so_far c.requires.ours.keeps c.loop-machine.invariant.follows.exists in
    record {
      same = next ∙ c.loop-machine.invariant.same;
      live = ap (λ (m : Operation). m.ended) next ∙ c.loop-machine.invariant.live;
      follows = c.in-Going.ensures.follows;
      port = same_port c.loop-machine.port c.step.new.port c.loop-machine.seat c.in-Going.ensures.port.layout c.loop-machine.invariant.ours (c.in-Going.ensures.port.others c.loop-machine.seat c.loop-machine.invariant.ours) ∙ c.loop-machine.invariant.port;
      ours = c.in-Going.ensures.port.ours;
      so_far = subst (λ (x : Layout × ℕ). IsInAttempt x.0 x.1 c.args.seat.now.view c.step.new.seat.view new.progress) (λ k. (sym c.in-Going.ensures.port.layout k, (sym next k).object)) on;
    }

pub returns-in-Won-clause-tells : goal.returns-in-Won-clause-tells
returns-in-Won-clause-tells c =
    rw (← c.loop-machine.invariant.port, ← c.loop-machine.invariant.same)
    (won_so c.loop-machine.port.layout _ _ c.args.seat.now.view c.loop-machine.seat.view c.step.new.seat.view c.loop-machine.machine c.step.new.self c.in-Won.reply c.in-Won.tag c.in-Won.ensures.tells c.loop-machine.invariant.so_far)

pub returns-in-Lost-clause-tells : goal.returns-in-Lost-clause-tells
returns-in-Lost-clause-tells c =
    rw (← c.loop-machine.invariant.port, ← c.loop-machine.invariant.same)
    (lost_so c.loop-machine.port.layout _ _ c.args.seat.now.view c.loop-machine.seat.view c.step.new.seat.view c.loop-machine.machine c.step.new.self c.in-Lost.expected c.in-Lost.found c.in-Lost.ensures.tells c.loop-machine.invariant.so_far
    c.loop-machine.invariant.follows.exists)

pub returns-in-Spent-clause-tells : goal.returns-in-Spent-clause-tells
returns-in-Spent-clause-tells c =
    rw (← c.loop-machine.invariant.port, ← c.loop-machine.invariant.same)
    (spent_so c.loop-machine.port.layout _ _ c.args.seat.now.view c.loop-machine.seat.view c.step.new.seat.view c.loop-machine.machine c.step.new.self c.in-Spent.tag c.in-Spent.ensures.tells c.loop-machine.invariant.so_far c.requires.ours.keeps
    c.loop-machine.invariant.follows.exists)
