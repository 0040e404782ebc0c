-- Earliest deadline first: a set whose tasks' demand fits into each number of ticks misses no deadline.
use Rattle.std.proofs.Common.{ℕ, suc, ◌≡◌, ◌≤◌, ◌<◌, ◌+◌, ◌-◌, ◌*◌, ◌/◌, nat_le, nat_lt, Bool, true, false, [], length, refl, ap, arith}
use Rattle.std.proofs.Math.Decide.{dec_le}
use Rattle.std.proofs.lemmas.Bool.{lt-ltb, leb-true}
use Rattle.rx_set.specs.declared.policies.Policy.TheVariants.{Edf}
use Rattle.rx_set.specs.System.{System, task_at, release, due, cost}
use Rattle.rx_set.specs.Charges.{charge_edf}
use Rattle.rx_set.specs.Valid.{IsValid, KeepsCosts}
use Rattle.rx_set.specs.Admission.{total, ceiling, due_jobs, due_need, EachSpanFits}
use Rattle.rx_set.proofs.Totals.{total_up, total_zero}
use Rattle.rx_slots.specs.Schedule.{slots}
use Rattle.rx_slots.specs.Events.{misses}
use Rattle.rx_slots.specs.Laws.{nth_job}
use Rattle.rx_slots.specs.Windows.{is_due_in, due_of, due_demand}
use Rattle.rx_slots.proofs.Choices.{both}
use Rattle.rx_slots.proofs.JobSums.{task_total}
use Rattle.rx_slots.proofs.WindowLaw.{where_it, where_true, and_true}
use Rattle.rx_slots.proofs.JobCounts.{within, task_jobs}
use Rattle.rx_slots.proofs.Demanded.{demand_law}

-- what the jobs of a task need that are released and due in a span, with any charges
abbrev pub charged_due : System → (ℕ → ℕ) → ℕ → ℕ → ℕ
charged_due system charges t task = due_jobs t (task_at system task).period (task_at system task).deadline * (cost system task + charges task)

module _ (system : System) (charges : ℕ → ℕ) (a b task : ℕ) (valid : IsValid system) (order : a < b) (known : task < length system.tasks) where
  -- a job is due in the span only where it is released before the last time that leaves it its deadline
  early_enough : (k : ℕ) → is_due_in system a b (nth_job task (suc k)) ≡ true
      → (a ≤ release system (nth_job task (suc k))) × (release system (nth_job task (suc k)) + (task_at system task).deadline ≤ b)
  early_enough k e =
      let parts = both (nat_le a (release system (nth_job task (suc k)))) (nat_le (due system (nth_job task (suc k))) b) e in
      (leb-true a (release system (nth_job task (suc k))) parts.0, leb-true (due system (nth_job task (suc k))) b parts.1)

  -- no job is, where the span is shorter than the deadline
  none_due : b < a + (task_at system task).deadline → task_total b (due_of system charges a b) task ≡ 0
  none_due short = total_zero (λ k. due_of system charges a b (nth_job task (suc k))) (b + 1) (λ k h. by_test k (is_due_in system a b (nth_job task (suc k))) refl)
    where
      by_test : (k : ℕ) (t : Bool) → is_due_in system a b (nth_job task (suc k)) ≡ t → where_it t (cost system task + charges task) ≡ 0
      by_test k true e = let times = early_enough k e in absurd (omega (arith, times.0, times.1, short))
      by_test k false e = refl

  -- else they are released in the rest of it
  few_due : a + (task_at system task).deadline ≤ b → task_total b (due_of system charges a b) task ≤ charged_due system charges (b - a) task
  few_due long =
      let room : b + 1 - (task_at system task).deadline - a + (task_at system task).period - 1 ≡ b - a + (task_at system task).period - (task_at system task).deadline =
      omega (arith, long, order, (valid.tasks task known).deadline.0, (valid.tasks task known).deadline.1) in
      let counts : ceiling (b + 1 - (task_at system task).deadline - a) (task_at system task).period * (cost system task + charges task) ≡ charged_due system charges (b - a) task =
      ap (λ (x : ℕ). x / (task_at system task).period * (cost system task + charges task)) room in
      omega (
        arith,
        counts,
        total_up (λ k. due_of system charges a b (nth_job task (suc k)))
            (λ k. where_it (within a (b + 1 - (task_at system task).deadline) (release system (nth_job task (suc k)))) (cost system task + charges task)) (b + 1)
            (λ k h. by_test k (is_due_in system a b (nth_job task (suc k))) refl),
        task_jobs system task a (b + 1 - (task_at system task).deadline) (cost system task + charges task) (b + 1) valid known,
      )
    where
      by_test : (k : ℕ) (t : Bool) → is_due_in system a b (nth_job task (suc k)) ≡ t
          → where_it t (cost system task + charges task) ≤ where_it (within a (b + 1 - (task_at system task).deadline) (release system (nth_job task (suc k)))) (cost system task + charges task)
      by_test k false e = omega arith
      by_test k true e =
          let times = early_enough k e in
          let inside : within a (b + 1 - (task_at system task).deadline) (release system (nth_job task (suc k))) ≡ true =
          and_true (nat_le a (release system (nth_job task (suc k)))) (nat_lt (release system (nth_job task (suc k))) (b + 1 - (task_at system task).deadline))
          (both (nat_le a (release system (nth_job task (suc k)))) (nat_le (due system (nth_job task (suc k))) b) e).0
          (lt-ltb (release system (nth_job task (suc k))) (b + 1 - (task_at system task).deadline) (omega (arith, times.1))) in
          omega (arith, where_true (within a (b + 1 - (task_at system task).deadline) (release system (nth_job task (suc k)))) (cost system task + charges task) inside)

  task_due : task_total b (due_of system charges a b) task ≤ charged_due system charges (b - a) task
  task_due = elim (dec_le (a + (task_at system task).deadline) b) [
    | yes long ↦ few_due long
    | no short ↦ omega (arith, none_due (omega (arith, short)))
  ]

-- the demand of a span of t ticks is at most what the tasks' jobs need in t ticks
pub span_due : (system : System) (charges : ℕ → ℕ) (a b : ℕ) → IsValid system → a < b → due_demand system charges a b ≤ total (charged_due system charges (b - a)) (length system.tasks)
span_due system charges a b valid order =
    total_up (task_total b (due_of system charges a b)) (charged_due system charges (b - a)) (length system.tasks) (λ task known. task_due system charges a b task valid order known)

pub earliest_sets : (system : System) (n : ℕ) → IsValid system → KeepsCosts system → system.policy ≡ Edf → EachSpanFits system → misses system (slots system n) ≡ []
earliest_sets system n valid keeps by_due each =
    demand_law system (charge_edf system) n valid keeps by_due (λ task known. omega arith)
    (λ a b order until.
    let need : total (charged_due system (charge_edf system) (b - a)) (length system.tasks) ≡ due_need system (b - a) = refl in
    omega (arith, span_due system (charge_edf system) a b valid order, need, each (b - a) (omega (arith, order)))) n (omega arith)
