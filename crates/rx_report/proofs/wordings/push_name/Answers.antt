use Rattle.std.proofs.Common.{◌++◌, ap, sym, ◌∙◌, arith, length, take, append_assoc, length-append, length-take-le}
use Rattle.std.specs.Prelude.{codes}
use Rattle.rx_set.specs.System.{task_of}
use Rattle.rx_report.proofs.Words.{looked_up}
use Rattle.rx_report.proofs.wordings.push_name.Goals as goal

pub push_short-requires-clause-few : goal.push_short-requires-clause-few
push_short-requires-clause-few c =
    let at = c.in-Some.ensures.lookup in
    let words = c.requires.words c.args.job.task c.in-Some.one.now (looked_up c.args.words.now c.args.job.task c.in-Some.one.now at.3.0 at.1) in
    (words.name.few, words.name.long)

pub returns-in-Some-clause-text : goal.returns-in-Some-clause-text
returns-in-Some-clause-text c =
    let at = c.in-Some.ensures.lookup in
    let words = c.requires.words c.args.job.task c.in-Some.one.now (looked_up c.args.words.now c.args.job.task c.in-Some.one.now at.3.0 at.1) in
    c.push_short.ensures ∙ ap (λ l. c.args.line.now.items ++ l) words.name.front ∙ sym (append_assoc c.args.line.now.items (task_of c.args.set.now c.args.job).name (codes " "))

pub returns-in-Some-clause-few : goal.returns-in-Some-clause-few
returns-in-Some-clause-few c =
    let at = c.in-Some.ensures.lookup in
    let words = c.requires.words c.args.job.task c.in-Some.one.now (looked_up c.args.words.now c.args.job.task c.in-Some.one.now at.3.0 at.1) in
    let name = c.in-Some.one.now.name in
    omega (arith, ap length c.push_short.ensures, length-append c.args.line.now.items (take name.len name.bytes), length-take-le name.len name.bytes (omega (arith, words.name.few, words.name.long)), words.short)
