use Rattle.std.proofs.Common.{◌≡◌, replicate}
use Rattle.rx_seq.proofs.registers.start.Given as goal

abbrev pub invariant-loop : goal.invariant-loop
invariant-loop l = l.state.items ≡ replicate l.counter 0
