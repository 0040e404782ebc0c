use Rattle.std.proofs.Common.{◌≡◌, ◌≤◌, ◌+◌, ◌*◌, ◌++◌, length, take}
use Rattle.std.specs.List.{flat_map}
use Rattle.rx_report.specs.Lines.{row_text}
use Rattle.rx_report.proofs.calls.push_rows.Given as goal

abbrev pub invariant-loop-row : goal.invariant-loop-row
invariant-loop-row l = record {
  text : l.line.items ≡ l.fn.line.items ++ flat_map row_text (take l.row-index (take l.count l.rows));
  few : length l.line.items ≤ length l.fn.line.items + 33 * l.row-index;
}
