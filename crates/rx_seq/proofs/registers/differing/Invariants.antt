use Rattle.std.proofs.Common.{◌≡◌, drop}
use Rattle.rx_seq.specs.Table.{first_difference}
use Rattle.rx_seq.proofs.registers.differing.Given as goal

abbrev pub invariant-loop-row : goal.invariant-loop-row
invariant-loop-row l = first_difference l.state.items (drop l.row-index l.rows) ≡ first_difference l.state.items l.rows
