-- A run tells no miss where no slot has one, and its last misses are no retries and no preemptions.
use Rattle.std.proofs.Common.{ℕ, zero, suc, ◌≡◌, ◌+◌, Bool, false, cond, List, [], ◌∷◌, ◌++◌, length, refl, ◌∙◌, ap, arith}
use Rattle.std.specs.Prelude.{count_by, map}
use Rattle.std.proofs.lemmas.List.Sums.{sum_by-append}
use Rattle.rx_set.specs.declared.jobs.Job.{Job}
use Rattle.rx_set.specs.System.{System}
use Rattle.rx_ledger.specs.declared.events.Event.{Event}
use Rattle.rx_ledger.specs.declared.events.Event.TheVariants.{Miss}
use Rattle.rx_ledger.specs.Counts.{is_miss}
use Rattle.rx_ledger.specs.Intervals.{is_retry_in, is_preemption_in, is_release_in, retries, preemptions, releases as releases_in}
use Rattle.rx_slots.specs.Schedule.{slots, slot_at}
use Rattle.rx_slots.specs.Events.{misses, is_missed, jobs_where, events_of, events}
use Rattle.rx_slots.proofs.NoMisses.{slot_misses}
use Rattle.rx_trace.specs.Report.{reported_events, reported_misses}

count_append : (p : Event → Bool) (es more : List Event) → count_by p (es ++ more) ≡ count_by p es + count_by p more
count_append p es more = sum_by-append (λ (e : Event). cond (p e) 1 0) es more

all_misses : (system : System) (n : ℕ) → ((m : ℕ) → misses system (slots system m) ≡ []) → count_by is_miss (events system n) ≡ 0
all_misses system zero none = refl
all_misses system (suc n) none =
    omega (arith, count_append is_miss (events system n) (events_of system (slots system n) (slot_at system n)), all_misses system n none, slot_misses system (slots system n) (slot_at system n) (none n))

pub none_reported : (system : System) (n : ℕ) → ((m : ℕ) → misses system (slots system m) ≡ []) → reported_misses system n ≡ 0
none_reported system n none =
    let last : count_by is_miss (misses system (slots system n)) ≡ 0 = ap (count_by is_miss) (none n) in
    count_append is_miss (events system n) (misses system (slots system n)) ∙ omega (arith, all_misses system n none, last)

-- what is counted of misses alone
not_counted : (p : Event → Bool) (at : ℕ) (jobs : List Job) → ((job : Job) → p (Miss at job) ≡ false) → count_by p (map (Miss at) jobs) ≡ 0
not_counted p at [] none = refl
not_counted p at (job ∷ jobs) none =
    let first : count_by p (Miss at job ∷ []) ≡ 0 = ap (λ (b : Bool). 0 + cond b 1 0) (none job) in
    count_append p (Miss at job ∷ []) (map (Miss at) jobs) ∙ omega (arith, first, not_counted p at jobs none)

told_is : (p : Event → Bool) (system : System) (n : ℕ) → ((at : ℕ) (job : Job) → p (Miss at job) ≡ false) → count_by p (reported_events system n) ≡ count_by p (events system n)
told_is p system n none =
    let past = slots system n in
    omega (arith, count_append p (events system n) (misses system past), not_counted p (length past) (jobs_where system (length past) (is_missed system past)) (none (length past)))

pub retries_reported : (test : Job → Bool) (system : System) (n a b : ℕ) → retries test a b (reported_events system n) ≡ retries test a b (events system n)
retries_reported test system n a b = told_is (is_retry_in test a b) system n (λ at job. refl)

pub preemptions_reported : (test : Job → Bool) (system : System) (n a b : ℕ) → preemptions test a b (reported_events system n) ≡ preemptions test a b (events system n)
preemptions_reported test system n a b = told_is (is_preemption_in test a b) system n (λ at job. refl)

pub releases_reported : (test : Job → Bool) (system : System) (n a b : ℕ) → releases_in test a b (reported_events system n) ≡ releases_in test a b (events system n)
releases_reported test system n a b = told_is (is_release_in test a b) system n (λ at job. refl)
