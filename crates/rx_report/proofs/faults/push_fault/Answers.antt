use Rattle.rx_report.proofs.faults.push_fault.Goals as goal

pub returns-in-Field-clause-text : goal.returns-in-Field-clause-text
returns-in-Field-clause-text c = rw c.in-Field.is c.push_key_fault.ensures.text

pub returns-in-Repeat-clause-text : goal.returns-in-Repeat-clause-text
returns-in-Repeat-clause-text c = rw c.in-Repeat.is (rw c.from-in-Repeat.ensures at c.push_row_fault-in-Repeat.ensures.text)

pub returns-in-Unknown-clause-text : goal.returns-in-Unknown-clause-text
returns-in-Unknown-clause-text c = rw c.in-Unknown.is c.push_item_fault-in-Unknown.ensures.text
