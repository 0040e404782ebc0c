use Rattle.std.proofs.Common.{◌≡◌, length, sym, ap, arith, List}
use Rattle.std.specs.Prelude.{count_by}
use Rattle.rx_seq.specs.declared.entries.Entry.{Entry}
use Rattle.rx_merge.specs.Merged.{lists_of, list_at, is_quiet_at}
use Rattle.rx_merge.specs.MergeState.{sum_below}
use Rattle.rx_merge.proofs.Tallies.{length_lists, counts_same, sum_next}
use Rattle.rx_merge.proofs.counts.quiets_of.Goals as goal

pub loop-caller-preserved : goal.loop-caller-preserved
loop-caller-preserved c =
    let lists : List (List Entry) = lists_of c.args.lists.now in
    let more = c.in_ok-add_quiets.ensures.counts (λ object tag. sum_below (λ caller. count_by (is_quiet_at object tag) (list_at lists caller)) c.loop-caller.caller) c.loop-caller.invariant in
    counts_same lists (length c.args.starts.now) _ _ c.add_quiets.new.counts.items (λ object tag. sym (sum_next (λ caller. count_by (is_quiet_at object tag) (list_at lists caller)) c.loop-caller.caller)) more

pub returns : goal.returns
returns c =
    let lists : List (List Entry) = lists_of c.args.lists.now in
    let all : c.loop-caller.caller ≡ length lists = omega (arith, length_lists c.args.lists.now, c.loop-caller-test.false, c.loop-caller.auto.caller-end) in
    counts_same lists (length c.args.starts.now) _ _ c.loop-caller.counts.items (λ object tag. ap (sum_below (λ caller. count_by (is_quiet_at object tag) (list_at lists caller))) all) c.loop-caller.invariant
