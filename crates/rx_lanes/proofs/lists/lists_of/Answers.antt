use Rattle.std.proofs.Common.{ℕ, ◌<◌, ◌+◌, ◌%◌, ◌∙◌, List, length, take, drop, ap, sym, subst₂, arith, length-append, ◌∷◌, []}
use Rattle.rx_seq.specs.declared.entries.Entry.{Entry}
use Rattle.rx_set.specs.Operations.{Asked, script_of}
use Rattle.rx_lanes.specs.declared.answers.Answer.{Answer}
use Rattle.rx_lanes.specs.Lists.{IsTold}
use Rattle.rx_lanes.specs.Runs.{answers_at, items_of}
use Rattle.rx_lanes.specs.Scripts.{calls_to}
use Rattle.rx_lanes.proofs.Bodies.{tasks_many, body_at, script_is}
use Rattle.rx_lanes.proofs.Listing.{each_more}
use Rattle.rx_lanes.proofs.lists.lists_of.Goals as goal

pub list_of-requires-clause-many : goal.list_of-requires-clause-many
list_of-requires-clause-many c =
    let known : c.loop-task.task < length c.args.set.now.tasks = omega (arith, c.loop-task-test.true, tasks_many c.args.set.now c.tasks-tasks.result.now c.tasks-tasks.ensures.rows) in
    let is = c.items.ensures ∙ body_at c.args.set.now c.tasks-tasks.result.now c.loop-task.task c.index-tasks-task.result c.tasks-tasks.ensures.rows known in
    c.answers_of-told.ensures.many ∙ ap length (script_is c.args.set.now c.args.jobs c.loop-task.task c.items.result.now c.tasks-tasks.ensures.valid known is)

pub loop-task-preserved : goal.loop-task-preserved
loop-task-preserved c =
    let known : c.loop-task.task < length c.args.set.now.tasks = omega (arith, c.loop-task-test.true, tasks_many c.args.set.now c.tasks-tasks.result.now c.tasks-tasks.ensures.rows) in
    let is = c.items.ensures ∙ body_at c.args.set.now c.tasks-tasks.result.now c.loop-task.task c.index-tasks-task.result c.tasks-tasks.ensures.rows known in
    let script = script_is c.args.set.now c.args.jobs c.loop-task.task c.items.result.now c.tasks-tasks.ensures.valid known is in
    let P : ℕ → List Entry → Type 0 = λ task list. IsTold task (script_of c.args.set.now c.args.jobs task)
    (take (length (script_of c.args.set.now c.args.jobs task)) (drop (length (calls_to c.args.set.now c.args.jobs c.args.workers (task % c.args.workers) task)) (answers_at (items_of c.args.answers.now) (task % c.args.workers)))) list in
    let last : P c.loop-task.task c.in_ok-list.list.items
    = subst₂ (λ (xs : List Asked) (rs : List Answer). IsTold c.loop-task.task xs rs c.in_ok-list.list.items) (sym script) c.answers_of-told.ensures.value c.in_ok-list.ensures in
    record {
      many = ap length c.in-Ok.ensures.items ∙ length-append c.loop-task.lists.items (c.in_ok-list.list ∷ []) ∙ ap (λ (n : ℕ). n + 1) c.loop-task.invariant.many;
      each = each_more P c.loop-task.lists.items c.push.new.self.items c.in_ok-list.list c.loop-task.task c.in-Ok.ensures.items c.loop-task.invariant.many c.loop-task.invariant.each last;
    }
