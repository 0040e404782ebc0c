use Rattle.rx_report.proofs.Found.{found_items}
use Rattle.rx_report.proofs.jobs.task_of.Goals as goal

pub returns-clause-valid : goal.returns-clause-valid
returns-clause-valid c =
    let read = c.tasks.ensures in found_items c.args.set.now c.tasks.result.now c.args.job.task c.get.result c.get.ensures.lookup read.rows read.valid
