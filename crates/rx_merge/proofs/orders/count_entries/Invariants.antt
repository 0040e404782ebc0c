use Rattle.std.proofs.Common.{◌≡◌, take}
use Rattle.std.specs.Prelude.{sum_by}
use Rattle.rx_merge.specs.Merged.{lists_of}
use Rattle.rx_merge.proofs.Whole.{size}
use Rattle.rx_merge.proofs.orders.count_entries.Given as goal

abbrev pub invariant-loop-list : goal.invariant-loop-list
invariant-loop-list l = l.count ≡ sum_by size (take l.list-index (lists_of l.lists))
