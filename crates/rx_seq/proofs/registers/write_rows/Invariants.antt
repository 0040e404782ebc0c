use Rattle.std.proofs.Common.{◌≡◌, drop, length}
use Rattle.std.specs.List.{All}
use Rattle.rx_seq.specs.States.{IsValue}
use Rattle.rx_seq.specs.Table.{with_rows}
use Rattle.rx_seq.proofs.registers.write_rows.Given as goal

abbrev pub invariant-loop-row : goal.invariant-loop-row
invariant-loop-row l =
    (length l.state.items ≡ length l.initial.state.items) × (with_rows l.state.items (drop l.row-index l.rows) ≡ with_rows l.initial.state.items l.rows)
    × (All IsValue l.initial.state.items → All IsValue l.state.items)
