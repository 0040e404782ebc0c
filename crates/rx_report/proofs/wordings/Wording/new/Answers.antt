use Rattle.std.proofs.Common.{◌≡◌, ◌<◌, ap, ◌∙◌, arith, length, sym}
use Rattle.std.proofs.lemmas.List.{length-map, length_push}
use Rattle.rx_set.specs.declared.tasks.Task.{Task}
use Rattle.rx_set.specs.View.{row_of}
use Rattle.rx_report.specs.Wordings.{AreWordsOf}
use Rattle.rx_report.proofs.Found.{found_few}
use Rattle.rx_report.proofs.Words.{each_added}
use Rattle.rx_report.proofs.wordings.Wording.new.Goals as goal

pub words_of-requires : goal.words_of-requires
words_of-requires c =
    let read = c.tasks-in-loop-task.ensures in
    let tasks = c.tasks-in-loop-task.result.now in
    let first = c.tasks-task-end.ensures in
    let task = c.index-tasks-task.result in
    let inside : c.loop-task.task < length tasks =
    omega (arith, c.loop-task-test.true, ap length first.rows, ap length read.rows, length-map c.tasks-task-end.result.now row_of, length-map tasks row_of) in
    let body : c.items-count.result.now ≡ task.body = c.items-count.ensures ∙ ap (λ (t : Task). t.body) (sym c.index-tasks-task.is) in
    rw body (found_few c.args.set.now tasks c.loop-task.task task inside c.index-tasks-task.is read.rows read.valid)

pub loop-task-preserved : goal.loop-task-preserved
loop-task-preserved c =
    let before = c.loop-task.tasks.items in
    let words = c.in_ok-words_of.field-0 in
    let last : AreWordsOf c.args.set.now (length before) words = rw c.loop-task.invariant.0 c.in_ok-words_of.ensures in
    rw c.in_ok-add_words.ensures (omega (arith, length_push before words, c.loop-task.invariant.0), each_added (AreWordsOf c.args.set.now) before words c.loop-task.invariant.1 last)
