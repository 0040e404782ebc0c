use Rattle.std.proofs.Common.{◌≡◌, ◌∙◌, List, length, ap, sym, subst, Vec, Global, reverse}
use Rattle.std.proofs.lemmas.List.{length-map}
use Rattle.rx_seq.specs.declared.entries.Entry.{Entry}
use Rattle.rx_set.specs.System.{part_of_row, parts_of}
use Rattle.rx_set.specs.View.{object_row}
use Rattle.rx_merge.specs.Merged.{AreOf, lists_of, merged}
use Rattle.rx_lanes.specs.Runs.{items_of}
use Rattle.rx_lanes.proofs.Merging.{IsGathered, gather, by_tasks, are_of, order_own, order_on, order_ends, order_made}
use Rattle.rx_lanes.proofs.runs.put_together.Goals as goal

pub merge-requires : goal.merge-requires
merge-requires c =
    let set = c.args.set.now in
    let count : length c.objects.result.now ≡ length (parts_of set) = sym (length-map c.objects.result.now object_row) ∙ ap length c.objects.ensures ∙ sym (length-map set.objects part_of_row) in
    let all : IsGathered set c.args.jobs c.args.workers c.args.closed.history (lists_of c.in_ok-lists.lists.items)
    = gather set c.args.jobs c.args.workers c.args.closed (items_of c.args.answers.now) c.in_ok-lists.lists.items c.requires.limits.0 c.requires.layout c.requires.ended c.requires.kept c.in_ok-lists.ensures.many c.in_ok-lists.ensures.each in (
      parts_of set,
      by_tasks _ _ _ _ _ all,
      subst (λ (ls : List (Vec Entry Global)). AreOf (parts_of set) (length c.objects.result.now) (lists_of ls) (by_tasks _ _ _ _ _ all)) (sym c.as_slice.ensures.value) (are_of _ _ _ _ _ all (length c.objects.result.now) count),
    )

-- what all clauses of the result rest on
gathered : (c : goal.In_ok-merged) → IsGathered c.args.set.now c.args.jobs c.args.workers c.args.closed.history (lists_of c.in_ok-lists.lists.items)
gathered c = gather c.args.set.now c.args.jobs c.args.workers c.args.closed (items_of c.args.answers.now) c.in_ok-lists.lists.items c.requires.limits.0 c.requires.layout c.requires.ended c.requires.kept c.in_ok-lists.ensures.many c.in_ok-lists.ensures.each

order_is : (c : goal.In_ok-merged) → c.in_ok-merged.merged.items ≡ reverse (merged (lists_of c.in_ok-lists.lists.items))
order_is c = c.in_ok-merged.ensures.order ∙ ap (λ (ls : List (Vec Entry Global)). reverse (merged (lists_of ls))) c.as_slice.ensures.value

pub returns-clause-lists : goal.returns-clause-lists
returns-clause-lists c = (gathered c).are

pub returns-clause-lanes : goal.returns-clause-lanes
returns-clause-lanes c = (gathered c).shared

pub returns-clause-own : goal.returns-clause-own
returns-clause-own c = order_own _ _ _ _ _ (gathered c) _ (order_is c) c.merges_are_histories.ensures.callers

pub returns-clause-made : goal.returns-clause-made
returns-clause-made c =
    let law = c.merges_are_histories.ensures in
    order_made _ _ _ _ _ (gathered c) _ (order_is c) law.callers law.legal law.whole (order_on _ _ _ _ _ (gathered c) _ (order_is c) law.loud law.all)

pub returns-clause-objects : goal.returns-clause-objects
returns-clause-objects c =
    let law = c.merges_are_histories.ensures in
    order_on _ _ _ _ _ (gathered c) _ (order_is c) law.loud law.all

pub returns-clause-ends : goal.returns-clause-ends
returns-clause-ends c = order_ends _ _ _ _ _ (gathered c) _ (order_is c) c.merges_are_histories.ensures.ends
