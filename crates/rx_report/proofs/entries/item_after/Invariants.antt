use Rattle.std.proofs.Common.{◌≡◌, ◌+◌, drop}
use Rattle.rx_report.specs.LaneLines.{item_after}
use Rattle.rx_report.proofs.entries.item_after.Given as goal

abbrev pub invariant-loop-item : goal.invariant-loop-item
invariant-loop-item l = record {
  place : l.place ≡ l.item-index + 1;
  left : item_after l.number l.items + 1 ≡ l.place + item_after l.left (drop l.item-index l.items);
}
