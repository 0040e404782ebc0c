use Rattle.std.proofs.Common.{ℕ, ◌≡◌, ◌+◌, ◌<◌, ◌∙◌, length, get_or, sym, ap, arith}
use Rattle.std.specs.Prelude.{count_by}
use Rattle.rx_merge.specs.Merged.{lists_of, list_at}
use Rattle.rx_merge.specs.MergeState.{is_loud_on, louds_in, sum_below}
use Rattle.rx_merge.proofs.Tallies.{length_lists, list_read, list_known, sum_next, sum_same}
use Rattle.rx_merge.proofs.counts.starts_of.Goals.{In_ok-whole}
use Rattle.rx_merge.proofs.counts.starts_of.Goals as goal

pub add_louds-requires : goal.add_louds-requires
add_louds-requires c =
    list_known c.args.objects (length c.loop-list.starts.items) c.args.lists.now c.loop-list.list-index c.list-item.result c.deref.result.now c.requires c.loop-list-test.true c.list-item.is c.deref.ensures.value c.loop-list.invariant.many

pub loop-list-preserved : goal.loop-list-preserved
loop-list-preserved c = record {
  many = c.in_ok-add_louds.ensures.many ∙ c.loop-list.invariant.many;
  counts = λ object h.
      let read : list_at (lists_of c.args.lists.now) c.loop-list.list-index ≡ c.deref.result.now = list_read c.args.lists.now c.loop-list.list-index c.list-item.result c.loop-list-test.true c.list-item.is ∙ sym c.deref.ensures.value in
      let more = c.in_ok-add_louds.ensures.counts object (omega (arith, h, c.loop-list.invariant.many)) in
      let before = c.loop-list.invariant.counts object h in
      let f : ℕ → ℕ = λ caller. count_by (is_loud_on object) (list_at (lists_of c.args.lists.now) caller) in
      more ∙ ap (λ n. n + count_by (is_loud_on object) c.deref.result.now) before ∙ ap (λ es. sum_below f c.loop-list.list-index + count_by (is_loud_on object) es) (sym read) ∙ sym (sum_next f c.loop-list.list-index);
}

louds : (c : In_ok-whole) → (object : ℕ) → object < c.args.objects → get_or c.loop-list.starts.items object 0 + 1 ≡ louds_in (lists_of c.args.lists.now) object + 1
louds c object h =
    let f : ℕ → ℕ = λ caller. count_by (is_loud_on object) (list_at (lists_of c.args.lists.now) caller) in
    let all : c.loop-list.list-index ≡ length (lists_of c.args.lists.now) = omega (arith, length_lists c.args.lists.now, c.loop-list-test.false, c.loop-list.auto.list-index-end) in
    ap (λ n. n + 1) (c.loop-list.invariant.counts object h ∙ ap (sum_below f) all)

pub returns-clause-whole : goal.returns-clause-whole
returns-clause-whole c =
    c.in_ok-whole.ensures.whole ∙ ap (sum_below (λ before. get_or c.loop-list.starts.items before 0 + 1)) c.loop-list.invariant.many
    ∙ sum_same (λ before. get_or c.loop-list.starts.items before 0 + 1) (λ before. louds_in (lists_of c.args.lists.now) before + 1) c.args.objects (louds c)

pub returns-clause-starts : goal.returns-clause-starts
returns-clause-starts c = record {
  many = c.in_ok-whole.ensures.many ∙ c.loop-list.invariant.many;
  at = λ object h.
      c.in_ok-whole.ensures.sums object (omega (arith, h, c.loop-list.invariant.many))
      ∙ sum_same (λ before. get_or c.loop-list.starts.items before 0 + 1) (λ before. louds_in (lists_of c.args.lists.now) before + 1) object (λ k less. louds c k (omega (arith, less, h)));
}
