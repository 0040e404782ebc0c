use Rattle.std.proofs.Common.{◌≡◌, ◌<◌, ◌%◌, ◌∙◌, List, length, sym, subst, arith, eq-eqb, ne_eqb}
use Rattle.rx_lanes.specs.Lanes.{HasRoom, Adds}
use Rattle.rx_set.specs.Operations.{Asked}
use Rattle.rx_lanes.proofs.Bodies.{tasks_many, body_at, script_is, body_fits}
use Rattle.rx_lanes.proofs.Making.{room_task, adds_task, adds_skip}
use Rattle.rx_lanes.proofs.lanes.Lane.run.Goals.{then-task-workers, else-task-workers}
use Rattle.rx_lanes.proofs.lanes.Lane.run.Goals as goal

pub make_jobs-requires-clause-room : goal.make_jobs-requires-clause-room
make_jobs-requires-clause-room g c =
    let known : c.loop-task.task < length c.args.set.now.tasks = omega (arith, c.loop-task-test.true, tasks_many c.args.set.now c.tasks-tasks.result.now c.tasks-tasks.ensures.rows) in
    let is = c.items.ensures ∙ body_at c.args.set.now c.tasks-tasks.result.now c.loop-task.task c.index-tasks-task.result c.tasks-tasks.ensures.rows known in
    let mine = eq-eqb (c.loop-task.task % c.args.workers) c.args.self.now.number (c.if-task-workers.true ∙ c.loop-task.invariant.number) in
    subst (λ (xs : List Asked). HasRoom (length xs) c.loop-task.self) (script_is c.args.set.now c.args.jobs c.loop-task.task c.items.result.now c.tasks-tasks.ensures.valid known is)
    (room_task c.args.shared.now c.args.set.now c.args.jobs c.args.workers c.args.self.now.number c.loop-task.task c.args.self.now c.loop-task.self c.loop-task.invariant known mine c.requires.room)

pub make_jobs-requires-clause-items : goal.make_jobs-requires-clause-items
make_jobs-requires-clause-items g c =
    let known : c.loop-task.task < length c.args.set.now.tasks = omega (arith, c.loop-task-test.true, tasks_many c.args.set.now c.tasks-tasks.result.now c.tasks-tasks.ensures.rows) in
    let is = c.items.ensures ∙ body_at c.args.set.now c.tasks-tasks.result.now c.loop-task.task c.index-tasks-task.result c.tasks-tasks.ensures.rows known in
    body_fits c.args.set.now c.args.jobs c.loop-task.task c.items.result.now c.tasks-tasks.ensures.valid known is c.args.shared.now.layout.parts c.requires.parts

pub loop-task-preserved : goal.loop-task-preserved
loop-task-preserved g c =
    let known : c.loop-task.task < length c.args.set.now.tasks = omega (arith, c.loop-task-test.true, tasks_many c.args.set.now c.tasks-tasks.result.now c.tasks-tasks.ensures.rows) in
    elim c.if-task-workers.branch [
      | then-task-workers w ↦
          let is = w.items.ensures ∙ body_at c.args.set.now c.tasks-tasks.result.now c.loop-task.task w.index-tasks-task.result c.tasks-tasks.ensures.rows known in
          let mine = eq-eqb (c.loop-task.task % c.args.workers) c.args.self.now.number (w.if-task-workers.true ∙ c.loop-task.invariant.number) in
          let script = script_is c.args.set.now c.args.jobs c.loop-task.task w.items.result.now c.tasks-tasks.ensures.valid known is in
          rw w.self-is (adds_task c.args.shared.now c.args.set.now c.args.jobs c.args.workers c.args.self.now.number c.loop-task.task c.args.self.now c.loop-task.self c.loop-task.invariant w.make_jobs.new.self mine
          (subst (λ (xs : List Asked). Adds c.args.shared.now xs c.loop-task.self w.make_jobs.new.self) (sym script) w.make_jobs.ensures))
      | else-task-workers w ↦
          let other = ne_eqb (c.loop-task.task % c.args.workers) c.args.self.now.number (λ same. w.if-task-workers.false (same ∙ sym c.loop-task.invariant.number)) in
          rw w.self-is (adds_skip c.args.shared.now c.args.set.now c.args.jobs c.args.workers c.args.self.now.number c.loop-task.task c.args.self.now c.loop-task.self c.loop-task.invariant other)
    ]

pub returns : goal.returns
returns g c =
    let all : c.loop-task.task ≡ length c.args.set.now.tasks = omega (arith, c.loop-task-test.false, c.loop-task.auto.task-end, tasks_many c.args.set.now c.tasks-tasks.result.now c.tasks-tasks.ensures.rows) in
    rw all at c.loop-task.invariant
