use Rattle.std.proofs.Common.{length, All, ap, sym, subst, arith}
use Rattle.rx_set.specs.System.{task_at}
use Rattle.rx_fixed.specs.Needs.{IsRow}
use Rattle.rx_fixed.proofs.Leasts.{NoneBelow, deadline_read, none_skipped, time_found, time_missing}
use Rattle.rx_fixed.proofs.Rows.{deadline_few, few_rows, need_read, rows_small}
use Rattle.rx_fixed.proofs.times.least_of.Goals as goal

pub need_of-need-requires-clause-rows : goal.need_of-need-requires-clause-rows
need_of-need-requires-clause-rows c = subst (All IsRow) (sym c.requires.rows) (rows_small c.args.set.now c.tasks.ensures.valid)

pub need_of-need-requires-clause-few : goal.need_of-need-requires-clause-few
need_of-need-requires-clause-few c = omega (arith, ap length c.requires.rows, few_rows c.args.set.now c.tasks.ensures.valid)

pub need_of-need-requires-clause-t : goal.need_of-need-requires-clause-t
need_of-need-requires-clause-t c =
    let due = deadline_read c.args.set.now c.tasks.result.now c.ranked.result c.args.rank c.index-tasks-ranked.result c.tasks.ensures.rows c.ranked.ensures.named c.ranked.ensures.known c.index-tasks-ranked.is in
    let few = deadline_few c.args.set.now c.ranked.result c.tasks.ensures.valid c.ranked.ensures.known in
    let named = ap (λ k. (task_at c.args.set.now k).deadline) c.ranked.ensures.named in
    (c.loop-t.invariant.0, omega (arith, few, named, due.0, due.1, c.loop-t-test.true))

pub returns-then-need-t : goal.returns-then-need-t
returns-then-need-t c =
    let due = deadline_read c.args.set.now c.tasks.result.now c.ranked.result c.args.rank c.index-tasks-ranked.result c.tasks.ensures.rows c.ranked.ensures.named c.ranked.ensures.known c.index-tasks-ranked.is in
    let need_is = need_read c.args.set.now c.args.rows.now c.charges_of-charges.result c.args.rank c.loop-t.t c.need_of-need.result c.tasks.ensures.valid c.requires.rows c.charges_of-charges.ensures.charges c.need_of-need.ensures in
    sym (time_found c.args.set.now c.args.rank c.loop-t.t c.loop-t.invariant.0 (omega (arith, due.0, due.1, c.loop-t-test.true)) (omega (arith, need_is, c.if-need-t.true)) c.loop-t.invariant.1)

pub loop-t-preserved : goal.loop-t-preserved
loop-t-preserved c =
    let need_is = need_read c.args.set.now c.args.rows.now c.charges_of-charges.result c.args.rank c.loop-t.t c.need_of-need.result c.tasks.ensures.valid c.requires.rows c.charges_of-charges.ensures.charges c.need_of-need.ensures in (
      omega (arith, c.if-need-t.false),
      subst (NoneBelow c.args.set.now c.args.rank) (sym need_is)
          (none_skipped c.args.set.now c.args.rank c.loop-t.t (λ u h. c.needs_grow.ensures c.args.set.now c.args.rank c.loop-t.t u h) c.loop-t.invariant.1),
    )

pub returns : goal.returns
returns c =
    let due = deadline_read c.args.set.now c.tasks.result.now c.ranked.result c.args.rank c.index-tasks-ranked.result c.tasks.ensures.rows c.ranked.ensures.named c.ranked.ensures.known c.index-tasks-ranked.is in
    sym (time_missing c.args.set.now c.args.rank c.loop-t.t (omega (arith, due.0, due.1, c.loop-t-test.false)) c.loop-t.invariant.1)
