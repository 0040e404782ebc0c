use Rattle.std.proofs.Common.{◌≤◌, length, arith}
use Rattle.rx_file.proofs.Valid.{work_stated}
use Rattle.rx_file.proofs.demands.read_table.Goals as goal

pub work_at-requires : goal.work_at-requires
work_at-requires c = rw c.body.ensures (c.requires c.in_ok-task.task)

pub overflow_cast-demand : goal.overflow_cast-demand
overflow_cast-demand c =
    let few : length c.body.result.now ≤ 64 = rw c.body.ensures (c.requires c.in_ok-task.task) in
    omega (arith, c.in_ok-item.ensures.range)

pub returns-clause-good : goal.returns-clause-good
returns-clause-good c = record {
  task = c.in_ok-task.ensures.bound;
  job = c.in_ok-job.ensures.range;
  item = c.in_ok-item.ensures.range.0;
  work = work_stated _ (rw c.body.ensures at c.in_ok-item.ensures.work);
  ticks = c.in_ok-ticks.ensures.range;
}
