use Rattle.std.proofs.Common.{◌≡◌, ◌+◌, ap, sym, ◌∙◌, arith, add-one, length}
use Rattle.rx_edf.specs.ChargedTasks.{cycle_to, common, charged_task_at}
use Rattle.rx_edf.proofs.Multiples.{cycle_more, cycle_some}
use Rattle.rx_edf.proofs.cycles.cycle_of.Goals as goal

pub returns-then-cycle-ge-WIDE-clause-none : goal.returns-then-cycle-ge-WIDE-clause-none
returns-then-cycle-ge-WIDE-clause-none c =
    let next : c.common_of-cycle.result ≡ cycle_to c.args.charged.now (c.loop-place.place + 1) = c.common_of-cycle.ensures ∙ ap (λ n. common n (charged_task_at c.args.charged.now c.loop-place.place).period) c.loop-place.invariant.is ∙ ap (cycle_to c.args.charged.now) (sym (add-one c.loop-place.place)) in
    omega (arith, next, c.if-cycle-ge-WIDE.true, cycle_more c.args.charged.now (c.loop-place.place + 1) (length c.args.charged.now) c.requires (omega arith) (omega (arith, c.loop-place-test.true)))

pub loop-place-preserved : goal.loop-place-preserved
loop-place-preserved c =
    let next : c.common_of-cycle.result ≡ cycle_to c.args.charged.now (c.loop-place.place + 1) = c.common_of-cycle.ensures ∙ ap (λ n. common n (charged_task_at c.args.charged.now c.loop-place.place).period) c.loop-place.invariant.is ∙ ap (cycle_to c.args.charged.now) (sym (add-one c.loop-place.place)) in
    record {
      is = next;
      some = omega (arith, next, cycle_some c.args.charged.now (c.loop-place.place + 1) c.requires (omega (arith, c.loop-place-test.true)));
      narrow = c.if-cycle-ge-WIDE.false;
    }
