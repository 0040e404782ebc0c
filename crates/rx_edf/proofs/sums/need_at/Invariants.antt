use Rattle.std.proofs.Common.{◌≡◌, ◌≤◌, ◌*◌, ◌-◌, ◌^◌}
use Rattle.rx_set.specs.Admission.{total}
use Rattle.rx_edf.specs.ChargedTasks.{need_of_task, charged_task_at}
use Rattle.rx_edf.proofs.sums.need_at.Given as goal

abbrev pub invariant-loop-place : goal.invariant-loop-place
invariant-loop-place l = record { is : l.sum ≡ total (λ place. need_of_task l.t (charged_task_at l.charged place)) l.place; few : l.sum ≤ l.place * (2 ^ 122 - 1) }
