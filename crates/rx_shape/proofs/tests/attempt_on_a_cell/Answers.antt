use Rattle.rx_shape.proofs.InlinePlans.{stock_inline}
use Rattle.rx_shape.proofs.tests.attempt_on_a_cell.Goals as goal

pub plan-requires-clause-stock : goal.plan-requires-clause-stock
plan-requires-clause-stock c = rw c.new.ensures (stock_inline c.start-shape.result.home c.start-shape.result.cell)
