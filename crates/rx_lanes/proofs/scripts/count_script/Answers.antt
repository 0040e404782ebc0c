use Rattle.std.proofs.Common.{◌≡◌, ◌*◌, ◌∙◌, length, ℕ, get_or, ap, arith}
use Rattle.rx_set.specs.Operations.{operations_of}
use Rattle.rx_lanes.proofs.Bodies.{body_at, script_count, script_few}
use Rattle.rx_lanes.proofs.scripts.count_script.Goals as goal

pub overflow_mul-result : goal.overflow_mul-result
overflow_mul-result c =
    let is = body_at c.args.set.now c.tasks.result.now c.args.task c.index-tasks-task.result c.tasks.ensures.rows c.requires.task in
    let few = script_few c.args.set.now c.args.jobs c.args.task (get_or c.tasks.result.now c.args.task c.index-tasks-task.result).body c.tasks.ensures.valid c.requires.task is c.requires.jobs in
    let same : c.args.jobs * c.operations.result ≡ c.args.jobs * length (operations_of (get_or c.tasks.result.now c.args.task c.index-tasks-task.result).body) = ap (λ (n : ℕ). c.args.jobs * n) c.operations.ensures.count in
    record { fits = omega (arith, few, same) }

pub returns-clause-count : goal.returns-clause-count
returns-clause-count c =
    let is = body_at c.args.set.now c.tasks.result.now c.args.task c.index-tasks-task.result c.tasks.ensures.rows c.requires.task in
    ap (λ (n : ℕ). c.args.jobs * n) c.operations.ensures.count ∙ script_count c.args.set.now c.args.jobs c.args.task (get_or c.tasks.result.now c.args.task c.index-tasks-task.result).body c.tasks.ensures.valid c.requires.task is

pub returns-clause-few : goal.returns-clause-few
returns-clause-few c =
    let is = body_at c.args.set.now c.tasks.result.now c.args.task c.index-tasks-task.result c.tasks.ensures.rows c.requires.task in
    let few = script_few c.args.set.now c.args.jobs c.args.task (get_or c.tasks.result.now c.args.task c.index-tasks-task.result).body c.tasks.ensures.valid c.requires.task is c.requires.jobs in
    let same : c.args.jobs * c.operations.result ≡ c.args.jobs * length (operations_of (get_or c.tasks.result.now c.args.task c.index-tasks-task.result).body) = ap (λ (n : ℕ). c.args.jobs * n) c.operations.ensures.count in
    omega (arith, few, same)
