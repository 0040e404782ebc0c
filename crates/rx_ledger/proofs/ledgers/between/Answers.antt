use Rattle.std.proofs.Common.{rules}
use Rattle.rx_ledger.proofs.Orders.{starts_first, counts_between, before_fails, after_fails}
use Rattle.rx_ledger.proofs.ledgers.between.Goals as goal

pub slice_bounds-result-count : goal.slice_bounds-result-count
slice_bounds-result-count c =
    starts_first c.args.events.now c.args.a c.args.b _ _ c.requires.ends c.count_before-start.ensures.bound c.count_before-start.ensures.before c.count_before-end.ensures.after

pub slice_bounds-result-start : goal.slice_bounds-result-start
slice_bounds-result-start c =
    let first = starts_first c.args.events.now c.args.a c.args.b _ _ c.requires.ends c.count_before-start.ensures.bound c.count_before-start.ensures.before c.count_before-end.ensures.after in
    search (rules, first)

pub returns : goal.returns
returns c = λ test within.
    counts_between test c.args.events.now _ _
    (starts_first c.args.events.now c.args.a c.args.b _ _ c.requires.ends c.count_before-start.ensures.bound c.count_before-start.ensures.before c.count_before-end.ensures.after)
    c.count_before-end.ensures.bound
    (λ k d below. before_fails test c.args.a c.args.b _ within (c.count_before-start.ensures.before k d below))
    (λ k d above inside. after_fails test c.args.a c.args.b _ within (c.count_before-end.ensures.after k d above inside))
