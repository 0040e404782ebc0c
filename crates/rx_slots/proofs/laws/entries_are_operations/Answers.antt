use Rattle.rx_slots.proofs.Attempts.{entry_made}
use Rattle.rx_slots.proofs.laws.entries_are_operations.Goals as goal

pub returns-clause-caller : goal.returns-clause-caller
returns-clause-caller c = λ system n object job entry e. (entry_made system n job object entry e).caller

pub returns-clause-object : goal.returns-clause-object
returns-clause-object c = λ system n object job entry e. (entry_made system n job object entry e).object_is

pub returns-clause-item : goal.returns-clause-item
returns-clause-item c = λ system n object job entry e. (entry_made system n job object entry e).asks
