use Rattle.std.proofs.Common.{◌≡◌, drop, map}
use Rattle.rx_seq.specs.Table.{have_repeat, register_of}
use Rattle.rx_seq.proofs.registers.has_repeat.Given as goal

abbrev pub invariant-loop-n : goal.invariant-loop-n
invariant-loop-n l = have_repeat (map register_of (drop l.n l.rows)) ≡ have_repeat (map register_of l.rows)
