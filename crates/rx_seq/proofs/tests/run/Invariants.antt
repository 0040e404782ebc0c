use Rattle.rx_seq.specs.States.{IsState}
use Rattle.rx_seq.proofs.tests.run.Given as goal

abbrev pub invariant-loop-row : goal.invariant-loop-row
invariant-loop-row g l = IsState l.part l.state.items
