-- What the test looks at in the tasks of a valid system is in its limits.
use Rattle.std.proofs.Common.{ℕ, ◌≡◌, ◌≤◌, ◌<◌, ◌*◌, nat_lt, List, length, get_or, map, sym, ◌∙◌, ap, arith, subst}
use Rattle.std.proofs.lemmas.List.{get_or-map, length-map}
use Rattle.std.proofs.lemmas.List.Sums.{sum_by-le, get_or-le-sum_by}
use Rattle.std.proofs.lemmas.Option.{slice_get-get_or}
use Rattle.rx_set.specs.declared.items.Item.{Item}
use Rattle.rx_set.specs.declared.items.Item.TheVariants.{Work, Op}
use Rattle.rx_set.specs.declared.tasks.Task.{Task}
use Rattle.rx_set.specs.System.{System, TaskRow, no_task, task_at, numbers, item_cost, cost}
use Rattle.rx_set.specs.Charges.{charge_edf}
use Rattle.rx_set.specs.Valid.{IsValid, IsItem}
use Rattle.rx_set.specs.View.{row_of}
use Rattle.rx_set.proofs.Counts.{length-numbers, get_or-numbers}
use Rattle.rx_set.proofs.Exposed.{charge_few}
use Rattle.rx_set.proofs.Readings.{attempt_bound}
use Rattle.rx_edf.specs.ChargedTasks.{IsChargedTask, AreChargedTasks, charged_task_of, charged_tasks_of, no_charged_task, charged_task_at}

-- of an item
item_bound : (system : System) (item : Item) → IsValid system → IsItem system item → (1 ≤ item_cost system item) × (item_cost system item ≤ 1000000)
item_bound system (Work ticks) valid is = (is.0, is.1)
item_bound system (Op object call) valid is = let few = attempt_bound system object valid is.0 in (omega (arith, few.0), omega (arith, few.1))

item_in : (system : System) (task place : ℕ) (d : Item) → IsValid system → task < length system.tasks → place < length (task_at system task).items → IsItem system (get_or (task_at system task).items place d)
item_in system task place d valid known inside =
    (valid.tasks task known).items place (get_or (task_at system task).items place d) (slice_get-get_or (task_at system task).items place d inside)

cost_bound : (system : System) (task : ℕ) → IsValid system → task < length system.tasks → (1 ≤ cost system task) × (cost system task ≤ 64000000)
cost_bound system task valid known =
    let items : List Item = (task_at system task).items in
    let row = valid.tasks task known in
    let some : 0 < length items = omega (arith, row.some_items.0) in
    let first = (item_bound system (get_or items 0 (Work 0)) valid (item_in system task 0 (Work 0) valid known some)).0 in
    let few : cost system task ≤ length items * 1000000 = sum_by-le (item_cost system) 1000000 items (λ place d inside. (item_bound system (get_or items place d) valid (item_in system task place d valid known inside)).1) in
    (omega (arith, first, get_or-le-sum_by (item_cost system) items 0 (Work 0) some), omega (arith, few, row.some_items.1))

-- of the charge
charge_bound : (system : System) (task : ℕ) → IsValid system → charge_edf system task ≤ 134
charge_bound system task valid = charge_few system (λ other. nat_lt (task_at system task).deadline (task_at system other).deadline) valid

-- of a task
pub charged_task_valid : (system : System) (task : ℕ) → IsValid system → task < length system.tasks → IsChargedTask (charged_task_of system task)
charged_task_valid system task valid known =
    let row = valid.tasks task known in
    let work = cost_bound system task valid known in
    record { period = row.period; deadline = row.deadline; cost = (omega (arith, work.0), omega (arith, work.1, charge_bound system task valid)) }

-- of all tasks
pub length-charged_tasks : (system : System) → length (charged_tasks_of system) ≡ length system.tasks
length-charged_tasks system = length-map (numbers (length system.tasks)) (charged_task_of system) ∙ length-numbers (length system.tasks)

pub charged_task_here : (system : System) (task : ℕ) → task < length system.tasks → charged_task_at (charged_tasks_of system) task ≡ charged_task_of system task
charged_task_here system task known =
    get_or-map (charged_task_of system) (numbers (length system.tasks)) task 0 no_charged_task (omega (arith, length-numbers (length system.tasks), known))
    ∙ ap (charged_task_of system) (get_or-numbers (length system.tasks) task known)

pub charged_tasks_valid : (system : System) → IsValid system → AreChargedTasks (charged_tasks_of system)
charged_tasks_valid system valid = record {
  some = omega (arith, length-charged_tasks system, valid.some_tasks.0);
  few = omega (arith, length-charged_tasks system, valid.some_tasks.1);
  each = λ task h.
      let known : task < length system.tasks = omega (arith, h, length-charged_tasks system) in
      subst IsChargedTask (sym (charged_task_here system task known)) (charged_task_valid system task valid known);
}

-- a task that is read
pub task_here : (system : System) (tasks : List Task) (k : ℕ) (task : Task) → map row_of tasks ≡ system.tasks → k < length system.tasks → task ≡ get_or tasks k task → task_at system k ≡ row_of task
task_here system tasks k task rows known is =
    ap (λ (xs : List TaskRow). get_or xs k no_task) (sym rows)
    ∙ get_or-map row_of tasks k task no_task (omega (arith, known, ap length rows, length-map tasks row_of)) ∙ ap row_of (sym is)
