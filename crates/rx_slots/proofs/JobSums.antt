-- Sums over the jobs of all tasks.
use Rattle.std.proofs.Common.{ℕ, suc, ◌≡◌, ◌≤◌, ◌<◌, ◌≢◌, ◌+◌, ◌-◌, length, ◌∙◌, ap, arith}
use Rattle.rx_set.specs.declared.jobs.Job.{Job}
use Rattle.rx_set.specs.System.{System}
use Rattle.rx_set.specs.Valid.{IsJobOf}
use Rattle.rx_set.specs.Admission.{total}
use Rattle.rx_set.proofs.Totals.{total_up, total_same, total_zero, total_plus, total_at, total_only, total_above, total_swap, total_some}
use Rattle.rx_slots.specs.Laws.{nth_job}
use Rattle.rx_slots.specs.Windows.{total_jobs}

-- the sum over the jobs of one task
abbrev pub task_total : ℕ → (Job → ℕ) → ℕ → ℕ
task_total n f task = total (λ k. f (nth_job task (suc k))) (n + 1)

of_task : (system : System) (task k : ℕ) → task < length system.tasks → IsJobOf system (nth_job task (suc k))
of_task system task k known = record { task = known; number = omega arith }

-- a job by its task and its number less one
pub job_is : (job : Job) → 1 ≤ job.number → nth_job job.task (suc (job.number - 1)) ≡ job
job_is job some =
    let number : suc (job.number - 1) ≡ job.number = omega (arith, some) in
    let named : ℕ → Job = λ k. nth_job job.task k in
    ap named number

pub jobs_up : (system : System) (n : ℕ) (f g : Job → ℕ) → ((job : Job) → IsJobOf system job → f job ≤ g job) → total_jobs system n f ≤ total_jobs system n g
jobs_up system n f g up =
    total_up (task_total n f) (task_total n g) (length system.tasks)
    (λ task known. total_up (λ k. f (nth_job task (suc k))) (λ k. g (nth_job task (suc k))) (n + 1) (λ k h. up (nth_job task (suc k)) (of_task system task k known)))

pub jobs_same : (system : System) (n : ℕ) (f g : Job → ℕ) → ((job : Job) → f job ≡ g job) → total_jobs system n f ≡ total_jobs system n g
jobs_same system n f g same =
    total_same (task_total n f) (task_total n g) (length system.tasks)
    (λ task known. total_same (λ k. f (nth_job task (suc k))) (λ k. g (nth_job task (suc k))) (n + 1) (λ k h. same (nth_job task (suc k))))

pub jobs_zero : (system : System) (n : ℕ) (f : Job → ℕ) → ((job : Job) → f job ≡ 0) → total_jobs system n f ≡ 0
jobs_zero system n f none =
    total_zero (task_total n f) (length system.tasks) (λ task known. total_zero (λ k. f (nth_job task (suc k))) (n + 1) (λ k h. none (nth_job task (suc k))))

pub jobs_plus : (system : System) (n : ℕ) (f g : Job → ℕ) → total_jobs system n (λ job. f job + g job) ≡ total_jobs system n f + total_jobs system n g
jobs_plus system n f g =
    total_same (task_total n (λ job. f job + g job)) (λ task. task_total n f task + task_total n g task) (length system.tasks)
    (λ task known. total_plus (λ k. f (nth_job task (suc k))) (λ k. g (nth_job task (suc k))) (n + 1))
    ∙ total_plus (task_total n f) (task_total n g) (length system.tasks)

at_job : (f : Job → ℕ) (job : Job) (n : ℕ) → 1 ≤ job.number → job.number ≤ n + 1 → f job ≤ task_total n f job.task
at_job f job n some few =
    let here : f (nth_job job.task (suc (job.number - 1))) ≡ f job = ap f (job_is job some) in
    omega (arith, here, total_at (λ k. f (nth_job job.task (suc k))) (job.number - 1) (n + 1) (omega (arith, some, few)))

-- one job's value is part of the sum
pub jobs_at : (system : System) (n : ℕ) (f : Job → ℕ) (job : Job) → IsJobOf system job → job.number ≤ n + 1 → f job ≤ total_jobs system n f
jobs_at system n f job known few =
    omega (arith, at_job f job n known.number few, total_at (task_total n f) job.task (length system.tasks) known.task)

-- less everywhere, and strictly so at one job
pub jobs_above : (system : System) (n : ℕ) (f g : Job → ℕ) (job : Job) → IsJobOf system job → job.number ≤ n + 1
    → ((other : Job) → IsJobOf system other → f other ≤ g other) → f job < g job → total_jobs system n f < total_jobs system n g
jobs_above system n f g job known few up less =
    let f_here : f (nth_job job.task (suc (job.number - 1))) ≡ f job = ap f (job_is job known.number) in
    let g_here : g (nth_job job.task (suc (job.number - 1))) ≡ g job = ap g (job_is job known.number) in
    total_above (task_total n f) (task_total n g) job.task (length system.tasks)
    (λ task h. total_up (λ k. f (nth_job task (suc k))) (λ k. g (nth_job task (suc k))) (n + 1) (λ k b. up (nth_job task (suc k)) (of_task system task k h)))
    known.task
    (total_above (λ k. f (nth_job job.task (suc k))) (λ k. g (nth_job job.task (suc k))) (job.number - 1) (n + 1)
    (λ k b. up (nth_job job.task (suc k)) (of_task system job.task k known.task)) (omega (arith, known.number, few)) (omega (arith, f_here, g_here, less)))

-- what has a value at one job alone
pub jobs_only : (system : System) (n : ℕ) (f : Job → ℕ) (job : Job) → 1 ≤ job.number → ((other : Job) → other ≢ job → f other ≡ 0) → total_jobs system n f ≤ f job
jobs_only system n f job some none =
    let here : f (nth_job job.task (suc (job.number - 1))) ≡ f job = ap f (job_is job some) in
    let other_task : (task : ℕ) → task ≢ job.task → task_total n f task ≡ 0 = λ task apart.
    total_zero (λ k. f (nth_job task (suc k))) (n + 1) (λ k h. none (nth_job task (suc k)) (λ e. apart (ap (λ (j : Job). j.task) e))) in
    let other_number : (k : ℕ) → k ≢ job.number - 1 → f (nth_job job.task (suc k)) ≡ 0 = λ k apart.
    none (nth_job job.task (suc k)) (λ e. apart (less_one k (ap (λ (j : Job). j.number) e))) in
    omega (
      arith,
      total_only (task_total n f) job.task (length system.tasks) (λ task known apart. other_task task apart),
      total_only (λ k. f (nth_job job.task (suc k))) (job.number - 1) (n + 1) (λ k h apart. other_number k apart),
      here,
    )
  where
    less_one : (k : ℕ) → suc k ≡ job.number → k ≡ job.number - 1
    less_one k e = omega (arith, e)

-- a sum over jobs of sums over slots is a sum over slots of sums over jobs
pub jobs_swap : (system : System) (n m : ℕ) (f : Job → ℕ → ℕ) → total_jobs system n (λ job. total (f job) m) ≡ total (λ at. total_jobs system n (λ job. f job at)) m
jobs_swap system n m f =
    total_same (task_total n (λ job. total (f job) m)) (λ task. total (λ at. task_total n (λ job. f job at) task) m) (length system.tasks)
    (λ task known. total_swap (λ k. f (nth_job task (suc k))) (n + 1) m)
    ∙ total_swap (λ task at. task_total n (λ job. f job at) task) (length system.tasks) m

-- a sum that is not 0 has a job with a value
pub jobs_some : (system : System) (n : ℕ) (f : Job → ℕ) → 1 ≤ total_jobs system n f → (job : Job) × IsJobOf system job × (1 ≤ f job)
jobs_some system n f h =
    let task = total_some (task_total n f) (length system.tasks) h in
    let place = total_some (λ k. f (nth_job task.0 (suc k))) (n + 1) task.2 in
    (nth_job task.0 (suc place.0), of_task system task.0 place.0 task.1, place.2)
