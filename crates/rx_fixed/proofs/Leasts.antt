-- What a search upward has found.
use Rattle.std.proofs.Common.{ℕ, ◌≡◌, ◌≤◌, ◌<◌, nat_le, true, false, List, length, get_or, map, Some, None, sym, ap, ◌∙◌, arith}
use Rattle.std.proofs.Math.Decide.{dec_le}
use Rattle.std.proofs.lemmas.List.{get_or-map, length-map}
use Rattle.std.proofs.lemmas.Bool.Decides.{nat_tests}
use Rattle.rx_set.specs.declared.tasks.Task.{Task}
use Rattle.rx_set.specs.System.{System, TaskRow, no_task, task_at}
use Rattle.rx_set.specs.View.{row_of}
use Rattle.rx_set.specs.Admission.{least_time, need, ranked_task}
use Rattle.rx_set.proofs.Firsts.{first_found, first_missing}

-- no number below t has its need within it
abbrev pub NoneBelow : System → ℕ → ℕ → Type 0
NoneBelow system place t = (u : ℕ) → 1 ≤ u → u < t → nat_le (need system place u) u ≡ false

not_within : (m u : ℕ) → u < m → nat_le m u ≡ false
not_within m u h = grind (arith, nat_tests)

is_within : (m u : ℕ) → m ≤ u → nat_le m u ≡ true
is_within m u h = grind (arith, nat_tests)

-- and where the need of t is above t, none below that need has
pub none_skipped : (system : System) (place t : ℕ) → ((u : ℕ) → t ≤ u → need system place t ≤ need system place u) → NoneBelow system place t → NoneBelow system place (need system place t)
none_skipped system place t grows below u some u_below = elim (dec_le t u) [
  | yes above ↦ not_within (need system place u) u (omega (arith, u_below, grows u above))
  | no earlier ↦ below u some (omega (arith, earlier))
]

pub as_many : (system : System) (tasks : List Task) → map row_of tasks ≡ system.tasks → length tasks ≡ length system.tasks
as_many system tasks rows = sym (length-map tasks row_of) ∙ ap length rows

-- the deadline of the task of a rank is the one that was read
pub deadline_read : (system : System) (tasks : List Task) (k place : ℕ) (task : Task) → map row_of tasks ≡ system.tasks → k ≡ ranked_task system place → k < length system.tasks → task ≡ get_or tasks k task
    → (task.deadline ≡ (task_at system (ranked_task system place)).deadline) × ((get_or tasks k task).deadline ≡ (task_at system (ranked_task system place)).deadline)
deadline_read system tasks k place task rows named known read =
    let inside : k < length tasks = omega (arith, known, as_many system tasks rows) in
    let of_rank : (get_or tasks k task).deadline ≡ (task_at system (ranked_task system place)).deadline =
    sym (
    ap (λ (j : ℕ). (task_at system j).deadline) (sym named)
    ∙ ap (λ (all : List TaskRow). (get_or all k no_task).deadline) (sym rows)
    ∙ ap (λ (row : TaskRow). row.deadline) (get_or-map row_of tasks k task no_task inside)
    ) in
    (ap (λ (one : Task). one.deadline) read ∙ of_rank, of_rank)

pub time_found : (system : System) (place t : ℕ) → 1 ≤ t → t ≤ (task_at system (ranked_task system place)).deadline → need system place t ≤ t → NoneBelow system place t → least_time system place ≡ Some t
time_found system place t some in_time fits below =
    first_found (λ u. nat_le (need system place u) u) (task_at system (ranked_task system place)).deadline t
    (record { some = some; within = in_time; passes = is_within (need system place t) t fits; least = below })

pub time_missing : (system : System) (place t : ℕ) → (task_at system (ranked_task system place)).deadline < t → NoneBelow system place t → least_time system place ≡ None
time_missing system place t late below =
    first_missing (λ u. nat_le (need system place u) u) (task_at system (ranked_task system place)).deadline
    (λ u some within. below u some (omega (arith, within, late)))
