use Rattle.std.proofs.Common.{◌++◌, ap, ◌∙◌, arith, length, take, length-append, length-take-le}
use Rattle.rx_report.proofs.Words.{found_request}
use Rattle.rx_report.proofs.wordings.push_request.Goals as goal

pub push_long-requires-clause-few : goal.push_long-requires-clause-few
push_long-requires-clause-few c =
    let kept = found_request c.args.set.now c.args.words.now c.args.job.task c.args.item c.in-Some.text.now c.requires.words c.in-Some.ensures in
    (kept.0.few, kept.0.long)

pub returns-in-Some-clause-text : goal.returns-in-Some-clause-text
returns-in-Some-clause-text c =
    let kept = found_request c.args.set.now c.args.words.now c.args.job.task c.args.item c.in-Some.text.now c.requires.words c.in-Some.ensures in
    c.push_long.ensures ∙ ap (λ l. c.args.line.now.items ++ l) kept.0.front

pub returns-in-Some-clause-few : goal.returns-in-Some-clause-few
returns-in-Some-clause-few c =
    let text = c.in-Some.text.now in
    let kept = found_request c.args.set.now c.args.words.now c.args.job.task c.args.item text c.requires.words c.in-Some.ensures in
    omega (arith, ap length c.push_long.ensures, length-append c.args.line.now.items (take text.len text.bytes), length-take-le text.len text.bytes (omega (arith, kept.0.few, kept.0.long)), kept.1)
