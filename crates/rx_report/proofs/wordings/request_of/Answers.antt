use Rattle.std.proofs.Common.{arith}
use Rattle.rx_report.proofs.Words.{looked_up, request_found}
use Rattle.rx_report.proofs.wordings.request_of.Goals as goal

pub returns-in-Some : goal.returns-in-Some
returns-in-Some c =
    let at = c.in-Some.ensures.lookup in
    request_found c.args.words.now c.args.job.task c.args.item c.in-Some.one.now c.get-in-Some.result (looked_up c.args.words.now c.args.job.task c.in-Some.one.now at.3.0 at.1) (omega (arith, c.if-item-eq0.false))
    (rw c.deref.ensures.value at c.get-in-Some.ensures.lookup)
