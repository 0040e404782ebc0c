use Rattle.std.proofs.Common.{◌≡◌, ◌+◌, take, arith}
use Rattle.std.specs.Prelude.{sum_by}
use Rattle.rx_merge.specs.Merged.{lists_of}
use Rattle.rx_merge.proofs.Whole.{size}
use Rattle.rx_merge.proofs.MergeStates.{counted_more}
use Rattle.rx_merge.proofs.orders.count_entries.Goals as goal

pub loop-list-preserved : goal.loop-list-preserved
loop-list-preserved c =
    let more = counted_more c.args.lists.now c.loop-list.list-index c.list-item.result (omega arith) c.list-item.is in
    let here : c.in_ok-count.count ≡ sum_by size (take (c.loop-list.list-index + 1) (lists_of c.args.lists.now)) =
    omega (arith, more, c.list-item.result.ok.0, c.len.ensures, c.in_ok-count.ensures.1, c.loop-list.invariant) in
    here
