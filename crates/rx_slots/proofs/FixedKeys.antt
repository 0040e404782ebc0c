-- Keys under fixed priorities: the jobs of the tasks up to a rank go before all others, and who preempts has a lower rank.
use Rattle.std.proofs.Common.{ℕ, ◌≡◌, ◌≢◌, ◌≤◌, ◌<◌, ◌==◌, ◌&&◌, ◌||◌, nat_lt, true, refl, ap, arith}
use Rattle.std.proofs.lemmas.Bool.{leb-true, leb-false}
use Rattle.std.proofs.Math.Decide.{dec_le}
use Rattle.std.proofs.lemmas.Bool.Decides.{nat_tests}
use Rattle.rx_set.specs.declared.policies.Policy.{Policy}
use Rattle.rx_set.specs.declared.policies.Policy.TheVariants.{Rm, Dm, Edf}
use Rattle.rx_set.specs.declared.jobs.Job.{Job}
use Rattle.rx_set.specs.System.{System, release, rank, key, key_by, is_below}
use Rattle.rx_set.specs.Valid.{IsValid, IsJobOf}
use Rattle.rx_set.proofs.Ranks.{rank_same}
use Rattle.rx_set.proofs.Releases.{release_order}
use Rattle.rx_slots.specs.Laws.{IsPreemption, nth_job}
use Rattle.rx_slots.specs.Charges.{of_rank_to}
use Rattle.rx_slots.specs.Windows.{IsFamily}
use Rattle.rx_slots.proofs.Choices.{who_pending}
use Rattle.rx_slots.proofs.Preemptions.{preempting_released, preempting_below}

-- keys of a rank and a number
below_by : (x y k m : ℕ) → x < y → (nat_lt x y || ((x == y) && (nat_lt 0 0 || ((0 == 0) && nat_lt k m)))) ≡ true
below_by x y k m h = grind (arith, nat_tests)

firsts_by : (x y k m : ℕ) → (nat_lt x y || ((x == y) && (nat_lt 0 0 || ((0 == 0) && nat_lt k m)))) ≡ true → x ≤ y
firsts_by x y k m h = grind (arith, nat_tests)

thirds_by : (x y k m : ℕ) → (nat_lt x y || ((x == y) && (nat_lt 0 0 || ((0 == 0) && nat_lt k m)))) ≡ true → y ≤ x → k < m
thirds_by x y k m h g = grind (arith, nat_tests)

lower_rank_by : (policy : Policy) (system : System) (job other : Job) → policy ≢ Edf → rank system job.task < rank system other.task → is_below (key_by policy system job) (key_by policy system other) ≡ true
lower_rank_by Rm system job other fixed h = below_by (rank system job.task) (rank system other.task) job.number other.number h
lower_rank_by Dm system job other fixed h = below_by (rank system job.task) (rank system other.task) job.number other.number h
lower_rank_by Edf system job other fixed h = absurd (fixed refl)

ranks_by : (policy : Policy) (system : System) (job other : Job) → policy ≢ Edf → is_below (key_by policy system job) (key_by policy system other) ≡ true
    → (rank system job.task ≤ rank system other.task) × (rank system other.task ≤ rank system job.task → job.number < other.number)
ranks_by Rm system job other fixed h =
    (firsts_by (rank system job.task) (rank system other.task) job.number other.number h, thirds_by (rank system job.task) (rank system other.task) job.number other.number h)
ranks_by Dm system job other fixed h =
    (firsts_by (rank system job.task) (rank system other.task) job.number other.number h, thirds_by (rank system job.task) (rank system other.task) job.number other.number h)
ranks_by Edf system job other fixed h = absurd (fixed refl)

-- the jobs of the tasks up to a rank go before all others
pub ranks_closed : (system : System) (place : ℕ) → system.policy ≢ Edf → IsFamily system (of_rank_to system place)
ranks_closed system place fixed job other known there mine its =
    let low : rank system job.task ≤ place = leb-true (rank system job.task) place mine in
    let high : place < rank system other.task = leb-false (rank system other.task) place its in
    lower_rank_by system.policy system job other fixed (omega (arith, low, high))

-- of two jobs the one of lower key that is released later has the lower rank
pub lower_rank : (system : System) (by job : Job) → IsJobOf system by → IsJobOf system job → system.policy ≢ Edf → is_below (key system by) (key system job) ≡ true → release system job < release system by
    → rank system by.task < rank system job.task
lower_rank system by job its mine fixed lower later =
    let parts = ranks_by system.policy system by job fixed lower in
    elim (dec_le (rank system job.task) (rank system by.task)) [
      | no less ↦ omega (arith, less)
      | yes more ↦
          let same_rank : rank system by.task ≡ rank system job.task = omega (arith, parts.0, more) in
          let same_task : by.task ≡ job.task = rank_same system by.task job.task its.task mine.task same_rank in
          let order : release system (nth_job by.task by.number) ≤ release system (nth_job by.task job.number) =
          release_order system by.task by.number job.number (omega (arith, parts.1 more)) in
          let its_release : release system (nth_job by.task job.number) ≡ release system job = ap (λ (t : ℕ). release system (nth_job t job.number)) same_task in
          absurd (omega (arith, order, its_release, later))
    ]

-- the task that preempts has a lower rank
pub preempting_rank : (system : System) (at : ℕ) (job by : Job) → IsValid system → system.policy ≢ Edf → IsPreemption system at job by → rank system by.task < rank system job.task
preempting_rank system at job by valid fixed h =
    let was = who_pending system h.before job h.had in
    let is = who_pending system at by h.has in
    lower_rank system by job is.known was.known fixed (preempting_below system at job by valid h)
    (omega (arith, was.released, h.follows, preempting_released system at job by valid h))
