use Rattle.std.proofs.Common.{◌≤◌, length, subst, sym, List}
use Rattle.rx_set.specs.declared.items.Item.{Item}
use Rattle.rx_report.proofs.Found.{found_few}
use Rattle.rx_report.proofs.entries.body_of.Goals as goal

pub returns-in-Some-clause-few : goal.returns-in-Some-clause-few
returns-in-Some-clause-few c =
    let read = c.tasks.ensures in
    let at = c.in-Some.ensures.lookup in
    subst (λ (items : List Item). length items ≤ 64) (sym c.items.ensures) (found_few c.args.set.now c.tasks.result.now c.args.task c.in-Some.task.now at.3.0 at.1 read.rows read.valid)
