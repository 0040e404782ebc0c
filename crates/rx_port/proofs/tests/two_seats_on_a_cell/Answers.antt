use Rattle.std.proofs.Common.{arith}
use Rattle.rx_port.proofs.tests.two_seats_on_a_cell.Goals as goal

pub begin_add-again-requires-clause-ours : goal.begin_add-again-requires-clause-ours
begin_add-again-requires-clause-ours g c = c.decide_add-lost.ensures.ours 0 (c.decide_add-won.ensures.ours 0 (c.begin_add-second.ensures.ours 0 (c.begin_add-first.ensures.ours 0 (c.in-Ok.ensures.ours 0 (omega arith)))))

pub decide_add-won-requires-2-clause-ours : goal.decide_add-won-requires-2-clause-ours
decide_add-won-requires-2-clause-ours g c = c.begin_add-again.ensures.ours 0 (c.decide_add-lost.ensures.ours 0 (c.decide_add-won.ensures.ours 0 (c.begin_add-second.ensures.ours 0 (c.begin_add-first.ensures.ours 0 (c.in-Ok.ensures.ours 0 (omega arith))))))
