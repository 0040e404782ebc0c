use Rattle.rx_bench.proofs.scripts.call_of.Goals as goal

pub returns-in-Cell : goal.returns-in-Cell
returns-in-Cell c = rw (c.in-Cell.is) (c.call_on_cell.ensures c.args.part.cap)

pub returns-in-List : goal.returns-in-List
returns-in-List c = rw (c.in-List.is) (c.call_on_list.ensures c.args.part.cap)
