use Rattle.std.proofs.Common.{ℕ, ◌+◌, sym, ◌∙◌, ap, arith}
use Rattle.rx_edf.specs.ChargedTasks.{charged_tasks_of, cycle_of, work_of}
use Rattle.rx_edf.proofs.Costs.{charged_tasks_valid}
use Rattle.rx_edf.proofs.Needs.{need_later, fails_near}
use Rattle.rx_edf.proofs.Answered.{need_is, cycle_whole}
use Rattle.rx_edf.proofs.laws.failures_are_near.Goals as goal

pub returns-clause-later : goal.returns-clause-later
returns-clause-later c system t valid =
    need_is system (t + cycle_of (charged_tasks_of system))
    ∙ need_later (charged_tasks_of system) t (cycle_of (charged_tasks_of system)) (charged_tasks_valid system valid) (cycle_whole (charged_tasks_of system) (charged_tasks_valid system valid))
    ∙ ap (λ (n : ℕ). n + work_of (charged_tasks_of system) (cycle_of (charged_tasks_of system))) (sym (need_is system t))

pub returns-clause-near : goal.returns-clause-near
returns-clause-near c system t valid fits fail =
    let found = fails_near (charged_tasks_of system) (cycle_of (charged_tasks_of system)) t (charged_tasks_valid system valid) (cycle_whole (charged_tasks_of system) (charged_tasks_valid system valid)) fits (omega (arith, fail, need_is system t)) in
    (found.0, found.1, found.2, omega (arith, found.3, need_is system found.0))
