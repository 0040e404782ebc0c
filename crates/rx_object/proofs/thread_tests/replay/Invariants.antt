use Rattle.rx_seq.specs.States.{IsState}
use Rattle.rx_object.proofs.thread_tests.replay.Given as goal

abbrev pub invariant-loop-place : goal.invariant-loop-place
invariant-loop-place l = IsState l.part l.state.items
