use Rattle.rx_seq.specs.States.{IsState}
use Rattle.rx_object.proofs.thread_tests.looks.Given as goal

abbrev pub invariant-loop-record : goal.invariant-loop-record
invariant-loop-record l = IsState l.part l.state.items
