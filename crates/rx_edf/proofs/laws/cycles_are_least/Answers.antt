use Rattle.std.proofs.Common.{ℕ, ◌≡◌, ◌<◌, length, ap, sym, subst, arith}
use Rattle.std.specs.Int.{◌∣◌}
use Rattle.std.proofs.Math.Nat.{le_of_dvd}
use Rattle.rx_set.specs.System.{System, task_at}
use Rattle.rx_edf.specs.declared.charged_tasks.ChargedTask.{ChargedTask}
use Rattle.rx_edf.specs.ChargedTasks.{charged_task_at, charged_tasks_of, cycle_of}
use Rattle.rx_edf.proofs.Multiples.{cycle_some, cycle_divides, cycle_least}
use Rattle.rx_edf.proofs.Costs.{charged_tasks_valid, charged_task_here, length-charged_tasks}
use Rattle.rx_edf.proofs.laws.cycles_are_least.Goals as goal

pub returns-clause-some : goal.returns-clause-some
returns-clause-some c system valid = cycle_some (charged_tasks_of system) (length (charged_tasks_of system)) (charged_tasks_valid system valid) (omega arith)

period_here : (system : System) (task : ℕ) → task < length system.tasks → (charged_task_at (charged_tasks_of system) task).period ≡ (task_at system task).period
period_here system task known = ap (λ (task : ChargedTask). task.period) (charged_task_here system task known)

pub returns-clause-divided : goal.returns-clause-divided
returns-clause-divided c system task valid known =
    subst (λ (p : ℕ). p ∣ cycle_of (charged_tasks_of system)) (period_here system task known)
    (cycle_divides (charged_tasks_of system) (length (charged_tasks_of system)) task (charged_tasks_valid system valid) (omega arith) (omega (arith, known, length-charged_tasks system)))

pub returns-clause-least : goal.returns-clause-least
returns-clause-least c system n valid some each =
    le_of_dvd (omega (arith, some))
    (cycle_least (charged_tasks_of system) (length (charged_tasks_of system)) n (charged_tasks_valid system valid) (omega arith)
    (λ place h.
    let known : place < length system.tasks = omega (arith, h, length-charged_tasks system) in
    subst (λ (p : ℕ). p ∣ n) (sym (period_here system place known)) (each place known)))
