use Rattle.std.proofs.Common.{◌≡◌, length}
use Rattle.rx_report.specs.Wordings.{AreWords}
use Rattle.rx_report.proofs.wordings.Wording.new.Given as goal

abbrev pub invariant-loop-task : goal.invariant-loop-task
invariant-loop-task l = (length l.tasks.items ≡ l.task) × AreWords l.set l.tasks.items
