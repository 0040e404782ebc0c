-- Worked counts of retries, preemptions and releases, and the preemptions that retries are charged to.
use Rattle.std.specs.Prelude.{◌≡◌, refl}
use Rattle.std.proofs.Common.{ap, arith}
use Rattle.rx_set.specs.declared.jobs.Job.{Job}
use Rattle.rx_ledger.specs.Intervals.{any_job, retries, preemptions, releases}
use Rattle.rx_slots.specs.Events.{events}
use Rattle.rx_slots.specs.Laws.{so_far, IsPreemption}
use Rattle.rx_slots.specs.Charges.{IsHeld, of_rank_to, of_rank_below}
use Rattle.rx_slots.specs.Rows.{job, retried, quiet_winner, nested, two_releases}

-- b's attempt from slot 1 to slot 4 is lost, and charged to the preemption in slot 2
pub retried_once : retries any_job 0 10 (events retried 10) ≡ 1
retried_once = refl

pub retried_within : retries any_job 1 5 (events retried 10) ≡ 1
retried_within = refl

pub retried_charged : preemptions any_job 1 5 (events retried 10) ≡ 1
retried_charged = refl

-- an interval that begins after the attempt does not have it, and neither has one that ends with its last slot
pub retried_later : retries any_job 2 10 (events retried 10) ≡ 0
retried_later = refl

pub retried_earlier : retries any_job 0 4 (events retried 10) ≡ 0
retried_earlier = refl

pub retried_preemption : IsPreemption retried 2 (job 1 1) (job 0 1)
retried_preemption = record { before = 1; follows = refl; had = refl; unfinished = refl; has = refl; other = λ e. let tasks : 1 ≡ 0 = ap (λ (j : Job). j.task) e in absurd (omega arith) }

pub retried_held : IsHeld retried 2 (job 1 1) 1
retried_held = let one : (so_far retried (job 1 1) 2).made ≡ 1 = refl in record { some = omega (arith, one); begins = refl }

-- a preemption by a call that changes nothing is charged no retry
pub quiet_retries : retries any_job 0 10 (events quiet_winner 10) ≡ 0
quiet_retries = refl

pub quiet_preemptions : preemptions any_job 0 10 (events quiet_winner 10) ≡ 1
quiet_preemptions = refl

-- two preemptions, one within the other, and a retry for each
pub nested_retries : retries any_job 0 50 (events nested 50) ≡ 2
nested_retries = refl

pub nested_preemptions : preemptions any_job 0 50 (events nested 50) ≡ 2
nested_preemptions = refl

pub nested_releases : releases any_job 0 50 (events nested 50) ≡ 2
nested_releases = refl

-- those of all ranks against the releases of the ranks below the last, and those of rank 2 against those of rank 1
pub nested_ranks : retries (of_rank_to nested 3) 0 50 (events nested 50) ≡ 2
nested_ranks = refl

pub nested_below : releases (of_rank_below nested 3) 0 50 (events nested 50) ≡ 2
nested_below = refl

pub nested_second : retries (of_rank_to nested 2) 0 50 (events nested 50) ≡ 1
nested_second = refl

pub nested_first : releases (of_rank_below nested 2) 0 50 (events nested 50) ≡ 1
nested_first = refl

-- from 2 to 26 there is b's retry alone, and the preemption in slot 4
pub nested_inner : retries any_job 2 26 (events nested 50) ≡ 1
nested_inner = refl

pub nested_inside : preemptions any_job 2 26 (events nested 50) ≡ 1
nested_inside = refl

-- two attempts win against one of a third job, which has one retry, for the one release that preempts it
pub releases_retries : retries any_job 0 8 (events two_releases 8) ≡ 1
releases_retries = refl

pub releases_preemptions : preemptions any_job 0 8 (events two_releases 8) ≡ 1
releases_preemptions = refl

pub releases_between : releases any_job 0 8 (events two_releases 8) ≡ 2
releases_between = refl
