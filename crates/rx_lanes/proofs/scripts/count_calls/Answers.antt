use Rattle.std.proofs.Common.{◌%◌, arith, eq-eqb, ne_eqb}
use Rattle.rx_lanes.proofs.Parts.{calls_yes, calls_no}
use Rattle.rx_lanes.proofs.scripts.count_calls.Goals.{then-task-workers, else-task-workers}
use Rattle.rx_lanes.proofs.scripts.count_calls.Goals as goal

pub overflow_add-count : goal.overflow_add-count
overflow_add-count c =
    let few = c.loop-task.invariant.few in
    let more = c.count_script-count.ensures.few in
    let tasks = c.tasks-valid.ensures.valid.some_tasks.1 in
    record { fits = omega arith }

pub loop-task-preserved : goal.loop-task-preserved
loop-task-preserved c =
    let so_far = c.loop-task.invariant.count in
    let few = c.loop-task.invariant.few in
    elim c.if-task-workers.branch [
      | then-task-workers w ↦
          let here = calls_yes c.args.set.now c.args.jobs c.args.workers c.args.lane c.loop-task.task (eq-eqb (c.loop-task.task % c.args.workers) c.args.lane w.if-task-workers.true) in
          let more = w.count_script-count.ensures.count in
          let bound = w.count_script-count.ensures.few in
          record { count = omega (arith, w.count-is, here, more, so_far); few = omega (arith, w.count-is, bound, few) }
      | else-task-workers w ↦
          let here = calls_no c.args.set.now c.args.jobs c.args.workers c.args.lane c.loop-task.task (ne_eqb (c.loop-task.task % c.args.workers) c.args.lane w.if-task-workers.false) in
          record { count = omega (arith, w.count-is, here, so_far); few = omega (arith, w.count-is, few) }
    ]
