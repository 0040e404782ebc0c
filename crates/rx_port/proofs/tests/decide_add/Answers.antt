use Rattle.std.proofs.Common.{◌∙◌}
use Rattle.rx_shape.proofs.InlinePlans.{stock_inline}
use Rattle.rx_port.specs.Plain.{view_at}
use Rattle.rx_port.proofs.BankMoves.{decided_moves}
use Rattle.rx_port.proofs.CellPlans.{ready_cell}
use Rattle.rx_port.proofs.tests.decide_add.Goals as goal

pub plan-reply-requires-clause-stock : goal.plan-reply-requires-clause-stock
plan-reply-requires-clause-stock c = rw c.new-own.ensures (stock_inline c.start-shape.result.home c.start-shape.result.cell)

pub decide-found-requires-clause-ready : goal.decide-found-requires-clause-ready
decide-found-requires-clause-ready c = ready_cell c.args.bank.now.layout (view_at c.args.bank.now.core c.args.seat) c.start-shape.result.home c.start-shape.result.call c.args.root _ _ _ _ _
    c.requires.layout c.requires.ours.owns c.requires.open c.requires.tag c.start-shape.ensures.home c.start-shape.ensures.asked c.new-own.ensures c.plan-reply.ensures

pub returns-clause-others : goal.returns-clause-others
returns-clause-others c other ne =
    let ready = ready_cell c.args.bank.now.layout (view_at c.args.bank.now.core c.args.seat) c.start-shape.result.home c.start-shape.result.call c.args.root _ _ _ _ _
    c.requires.layout c.requires.ours.owns c.requires.open c.requires.tag c.start-shape.ensures.home c.start-shape.ensures.asked c.new-own.ensures c.plan-reply.ensures in
    (decided_moves c.args.bank.now.layout c.args.bank.now.core c.decide-found.new.self.core _ _ c.requires.ours.plain ready.attempt c.plan-reply.new.out.root c.decide-found.result c.plan-reply.new.out.trade.pairs.items
    ready.decision (c.decide-found.ensures.event ready.attempt ready.decision.is_open)).others other (λ e. ne (e ∙ c.requires.ours.number))
