use Rattle.std.proofs.Common.{◌≡◌, ◌≤◌, ◌+◌, ◌*◌, ◌++◌, length, take}
use Rattle.std.specs.List.{flat_map}
use Rattle.rx_report.specs.Lines.{spaced}
use Rattle.rx_report.proofs.lines.push_values.Given as goal

abbrev pub invariant-loop-value : goal.invariant-loop-value
invariant-loop-value l = record {
  text : l.line.items ≡ l.fn.line.items ++ flat_map spaced (take l.value-index l.values);
  few : length l.line.items ≤ length l.fn.line.items + 11 * l.value-index;
}
