use Rattle.std.proofs.Common.{ℕ, refl, ◌∙◌, subst, arith}
use Rattle.rx_seq.specs.declared.calls.Call.{Call}
use Rattle.rx_shape.specs.Layout.{Layout}
use Rattle.rx_object.specs.Calls.{IsDone, IsLost, IsSpent}
use Rattle.rx_object.proofs.Waiting.{not_waited, waited_more, done_after, spent_after, rises}
use Rattle.rx_object.proofs.calls.make.Goals as goal

pub loop-reply-init : goal.loop-reply-init
loop-reply-init c = record {
  machine = c.requires.new;
  port = c.port-port.ensures;
  ours = c.requires.ours;
  waited = not_waited c.args.shared.now.layout c.args.seat.now.view c.args.object c.requires.ours.keeps;
}

pub returns-in-Done-clause-tells : goal.returns-in-Done-clause-tells
returns-in-Done-clause-tells c =
    let h = c.loop-reply.invariant in
    let done = subst (λ (x : Layout × ℕ × Call). IsDone x.0 c.loop-reply.seat.view c.try_once.new.seat.view x.1 x.2 c.in-Done.reply c.in-Done.tag 0) (λ k. ((h.port k).layout, (h.machine k).object, (h.machine k).call)) c.in-Done.ensures.tells in
    done_after c.args.shared.now.layout c.args.seat.now.view c.loop-reply.seat.view c.try_once.new.seat.view c.args.object c.loop-reply.retries h.waited c.args.call c.in-Done.reply c.in-Done.tag done

pub loop-reply-smaller : goal.loop-reply-smaller
loop-reply-smaller c =
    let h = c.loop-reply.invariant in
    let lost = subst (λ (x : Layout × ℕ). IsLost x.0 c.loop-reply.seat.view c.try_once.new.seat.view x.1 c.in-Lost.expected c.in-Lost.found) (λ k. ((h.port k).layout, (h.machine k).object)) c.in-Lost.ensures.tells in
    let more = rises c.args.shared.now.layout c.loop-reply.seat.view c.try_once.new.seat.view c.args.object c.in-Lost.expected c.in-Lost.found lost in
    let above = more.0 in
    let below = more.1 in omega arith

pub loop-reply-preserved : goal.loop-reply-preserved
loop-reply-preserved c =
    let h = c.loop-reply.invariant in
    let lost = subst (λ (x : Layout × ℕ). IsLost x.0 c.loop-reply.seat.view c.try_once.new.seat.view x.1 c.in-Lost.expected c.in-Lost.found) (λ k. ((h.port k).layout, (h.machine k).object)) c.in-Lost.ensures.tells in
    record {
      machine = c.in-Lost.ensures.again c.in-Lost.expected c.in-Lost.found refl ∙ h.machine;
      port = c.in-Lost.ensures.port ∙ h.port;
      ours = rw (← h.port) c.in-Lost.ensures.ours;
      waited = waited_more c.args.shared.now.layout c.args.seat.now.view c.loop-reply.seat.view c.try_once.new.seat.view c.args.object c.loop-reply.retries h.waited c.in-Lost.expected c.in-Lost.found lost;
    }

pub returns-in-Spent-clause-tells : goal.returns-in-Spent-clause-tells
returns-in-Spent-clause-tells c =
    let h = c.loop-reply.invariant in
    let spent = subst (λ (x : Layout × ℕ × Call). IsSpent x.0 c.loop-reply.seat.view c.try_once.new.seat.view x.1 x.2 c.in-Spent.tag 0) (λ k. ((h.port k).layout, (h.machine k).object, (h.machine k).call)) c.in-Spent.ensures.tells in (
      c.loop-reply.retries,
      spent_after c.args.shared.now.layout c.args.seat.now.view c.loop-reply.seat.view c.try_once.new.seat.view c.args.object c.loop-reply.retries h.waited c.args.call c.in-Spent.tag spent,
    )
