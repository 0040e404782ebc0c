-- Releases and deadlines.
use Rattle.std.proofs.Common.{ℕ, ◌≤◌, ◌<◌, ◌+◌, ◌-◌, ◌*◌, ◌^◌, length, arith}
use Rattle.rx_set.specs.declared.jobs.Job.{Job}
use Rattle.rx_set.specs.System.{System, task_at, task_of, release, due}
use Rattle.rx_set.specs.Valid.{IsValid, IsJob}

later : (offset period k m : ℕ) → k ≤ m → offset + (k - 1) * period ≤ offset + (m - 1) * period
later offset period k m h = grind arith

later_by : (offset period k m : ℕ) → 1 ≤ k → k < m → offset + (k - 1) * period + period ≤ offset + (m - 1) * period
later_by offset period k m first h = grind arith

number_by : (offset period k n : ℕ) → 1 ≤ period → offset + (k - 1) * period ≤ n → k ≤ n + 1
number_by offset period k n some h = grind arith

pub periods_bound : (k period : ℕ) → period ≤ 1000000 → k ≤ 2 ^ 40 → k * period ≤ 2 ^ 40 * 1000000
periods_bound k period short few = grind arith

most_by : (offset period k : ℕ) → offset ≤ 1000000 → period ≤ 1000000 → 1 ≤ k → k ≤ 2 ^ 40 → offset + (k - 1) * period ≤ 2 ^ 40 * 1000000 + 1000000
most_by offset period k low short first few = grind (arith, periods_bound k period short few)

-- a later job of a task is released no sooner
pub release_order : (system : System) (task k m : ℕ) → k ≤ m → release system (record { task = task; number = k }) ≤ release system (record { task = task; number = m })
release_order system task k m h = later (task_at system task).offset (task_at system task).period k m h

-- and at least a period later
pub release_apart : (system : System) (task k m : ℕ) → 1 ≤ k → k < m
    → release system (record { task = task; number = k }) + (task_at system task).period ≤ release system (record { task = task; number = m })
release_apart system task k m first h = later_by (task_at system task).offset (task_at system task).period k m first h

pub due_order : (system : System) (task k m : ℕ) → k ≤ m → due system (record { task = task; number = k }) ≤ due system (record { task = task; number = m })
due_order system task k m h = omega (arith, release_order system task k m h)

-- a job that is released by a time has a number that is at most one more
pub number_bound : (system : System) (job : Job) (n : ℕ) → IsValid system → job.task < length system.tasks → release system job ≤ n → job.number ≤ n + 1
number_bound system job n valid known h =
    number_by (task_of system job).offset (task_of system job).period job.number n (valid.tasks job.task known).period.0 h

-- the releases and deadlines of jobs that can be asked for
pub release_bound : (system : System) (job : Job) → IsValid system → IsJob system job → release system job ≤ 2 ^ 40 * 1000000 + 1000000
release_bound system job valid known =
    let row = valid.tasks job.task known.task in
    most_by (task_of system job).offset (task_of system job).period job.number row.offset row.period.1 known.number.0 known.number.1

pub due_bound : (system : System) (job : Job) → IsValid system → IsJob system job → due system job ≤ 2 ^ 40 * 1000000 + 2000000
due_bound system job valid known =
    let row = valid.tasks job.task known.task in
    omega (arith, release_bound system job valid known, row.deadline.1, row.period.1)

-- so they fit 64 bits
pub release_fits : (system : System) (job : Job) → IsValid system → IsJob system job → release system job < 2 ^ 64
release_fits system job valid known = omega (arith, release_bound system job valid known)

pub due_fits : (system : System) (job : Job) → IsValid system → IsJob system job → due system job < 2 ^ 64
due_fits system job valid known = omega (arith, due_bound system job valid known)
