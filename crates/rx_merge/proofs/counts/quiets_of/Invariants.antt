use Rattle.std.proofs.Common.{count_by, length}
use Rattle.rx_merge.specs.Merged.{is_quiet_at, list_at, lists_of}
use Rattle.rx_merge.specs.MergeState.{AreCounts, sum_below}
use Rattle.rx_merge.proofs.counts.quiets_of.Given as goal

abbrev pub invariant-loop-caller : goal.invariant-loop-caller
invariant-loop-caller l = AreCounts (lists_of l.lists) (length l.starts) (λ object tag. sum_below (λ caller. count_by (is_quiet_at object tag) (list_at (lists_of l.lists) caller)) l.caller) l.counts.items
