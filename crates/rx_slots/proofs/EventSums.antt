-- Sums over the events of a schedule, slot by slot.
use Rattle.std.proofs.Common.{ℕ, zero, suc, ◌≡◌, ◌≤◌, ◌+◌, inl, inr, Bool, true, cond, List, [], ◌∷◌, ◌++◌, length, map, Some, None, refl, ◌∙◌, ap, arith}
use Rattle.std.specs.Prelude.{sum_by}
use Rattle.std.specs.List.{All}
use Rattle.std.proofs.lemmas.Bool.Decides.{nat_tests}
use Rattle.std.proofs.lemmas.List.Elements.{All-head, All-tail}
use Rattle.std.proofs.lemmas.List.Sums.{sum_by-append, sum_by-cons}
use Rattle.rx_seq.specs.declared.replies.Reply.{Reply as Answer}
use Rattle.rx_set.specs.Admission.{total}
use Rattle.rx_set.specs.declared.jobs.Job.{Job}
use Rattle.rx_set.specs.System.{System, release}
use Rattle.rx_set.specs.Valid.{IsValid, IsJobOf}
use Rattle.rx_ledger.specs.declared.events.Event.{Event}
use Rattle.rx_ledger.specs.declared.events.Event.TheVariants.{Miss, Release, Preempt, Reply, Retry, Finish}
use Rattle.rx_slots.specs.Schedule.{Slot, Idle, Busy, Decide, progress, all_jobs, slots, slot_at}
use Rattle.rx_slots.specs.Events.{misses, releases, is_released_at, jobs_where, wins, wins_below, preemption, decision, finish, events_of, events}
use Rattle.rx_slots.specs.Laws.{so_far, IsPreemption}
use Rattle.rx_slots.proofs.Prefixes.{slots_count}
use Rattle.rx_slots.proofs.SlotEvents.{all_misses, all_releases, all_preemption, all_decision, all_finish}
use Rattle.rx_slots.proofs.Choices.{In, in_filter, in_all}
use Rattle.rx_slots.proofs.Preemptions.{IsTaken, Nobody, Somebody, taken_at, preemption_told}

-- 1 for each event that passes a test, so that its sum is the count
abbrev pub counted : (Event → Bool) → Event → ℕ
counted test event = cond (test event) 1 0

-- the sum over the events of slot n
abbrev pub at_slot : (Event → ℕ) → System → ℕ → ℕ
at_slot w system n = sum_by w (events_of system (slots system n) (slot_at system n))

pub events_total : (w : Event → ℕ) (system : System) (n : ℕ) → sum_by w (events system n) ≡ total (at_slot w system) n
events_total w system zero = refl
events_total w system (suc n) = sum_by-append w (events system n) (events_of system (slots system n) (slot_at system n)) ∙ omega (arith, events_total w system n)

pub of_slot : (w : Event → ℕ) (system : System) (past : List Slot) (slot : Slot) → sum_by w (events_of system past slot)
    ≡ sum_by w (misses system past) + sum_by w (releases system (length past)) + sum_by w (preemption system past slot) + sum_by w (decision system past slot) + sum_by w (finish system past slot)
of_slot w system past slot =
    let missed = misses system past in
    let released = releases system (length past) in
    let taken = preemption system past slot in
    let decided = decision system past slot in
    omega (
      arith,
      sum_by-append w (missed ++ released ++ taken ++ decided) (finish system past slot),
      sum_by-append w (missed ++ released ++ taken) decided,
      sum_by-append w (missed ++ released) taken,
      sum_by-append w missed released,
    )

-- events that have no weight, and one alone
abbrev IsNone : (Event → ℕ) → Event → Type 0
IsNone w event = w event ≡ 0

pub sum_none : (w : Event → ℕ) (es : List Event) → All (IsNone w) es → sum_by w es ≡ 0
sum_none w [] none = refl
sum_none w (event ∷ es) none = sum_by-cons w event es ∙ omega (arith, All-head (IsNone w) event es none, sum_none w es (All-tail (IsNone w) event es none))

one_weight : (w : Event → ℕ) (event : Event) → sum_by w (event ∷ []) ≡ w event
one_weight w event = omega arith

-- weights that preemptions alone have, and that replies and retries alone have
pub record IsOnPreemptions (w : Event → ℕ) : Type 0 where
  pub miss : (n : ℕ) (job : Job) → w (Miss n job) ≡ 0
  pub release : (n : ℕ) (job : Job) → w (Release n job) ≡ 0
  pub reply : (n first : ℕ) (job : Job) (item : ℕ) (answer : Answer) (tag : ℕ) → w (Reply n first job item answer tag) ≡ 0
  pub retry : (n first : ℕ) (job : Job) (item expected found : ℕ) → w (Retry n first job item expected found) ≡ 0
  pub finish : (n : ℕ) (job : Job) → w (Finish n job) ≡ 0

pub record IsOnDecisions (w : Event → ℕ) : Type 0 where
  pub miss : (n : ℕ) (job : Job) → w (Miss n job) ≡ 0
  pub release : (n : ℕ) (job : Job) → w (Release n job) ≡ 0
  pub preempt : (n : ℕ) (job by : Job) → w (Preempt n job by) ≡ 0
  pub finish : (n : ℕ) (job : Job) → w (Finish n job) ≡ 0

module _ (w : Event → ℕ) (system : System) (past : List Slot) (slot : Slot) where
  no_miss : ((n : ℕ) (job : Job) → w (Miss n job) ≡ 0) → sum_by w (misses system past) ≡ 0
  no_miss none = sum_none w (misses system past) (all_misses (IsNone w) system past (none (length past)))

  no_release : ((n : ℕ) (job : Job) → w (Release n job) ≡ 0) → sum_by w (releases system (length past)) ≡ 0
  no_release none = sum_none w (releases system (length past)) (all_releases (IsNone w) system past (none (length past)))

  no_finish : ((n : ℕ) (job : Job) → w (Finish n job) ≡ 0) → sum_by w (finish system past slot) ≡ 0
  no_finish none = sum_none w (finish system past slot) (all_finish (IsNone w) system past slot (none (length past)))

  preemptions_alone : IsOnPreemptions w → sum_by w (events_of system past slot) ≡ sum_by w (preemption system past slot)
  preemptions_alone on =
      let decided = sum_none w (decision system past slot) (all_decision (IsNone w) system past slot (on.reply (length past)) (on.retry (length past))) in
      omega (arith, of_slot w system past slot, no_miss on.miss, no_release on.release, decided, no_finish on.finish)

  pub decisions_alone : IsOnDecisions w → sum_by w (events_of system past slot) ≡ sum_by w (decision system past slot)
  decisions_alone on =
      let taken = sum_none w (preemption system past slot) (all_preemption (IsNone w) system past slot (on.preempt (length past))) in
      omega (arith, of_slot w system past slot, no_miss on.miss, no_release on.release, taken, no_finish on.finish)

-- the weight of a slot is that of the preemption in it
pub data HasPreemption (w : Event → ℕ) (system : System) (n : ℕ) : Type 0 where
  NoPreemption : at_slot w system n ≡ 0 → HasPreemption w system n
  OnePreemption : (job by : Job) → IsPreemption system n job by → at_slot w system n ≡ w (Preempt n job by) → HasPreemption w system n

pub preemption_value : (w : Event → ℕ) (system : System) (n : ℕ) (job by : Job) → IsOnPreemptions w → IsPreemption system n job by → at_slot w system n ≡ w (Preempt n job by)
preemption_value w system n job by on is =
    preemptions_alone w system (slots system n) (slot_at system n) on ∙ ap (sum_by w) (preemption_told system n job by is) ∙ one_weight w (Preempt n job by)

pub preemption_weight : (w : Event → ℕ) (system : System) (n : ℕ) → IsOnPreemptions w → HasPreemption w system n
preemption_weight w system n on = by_told (taken_at system n)
  where
    by_told : IsTaken system n (preemption system (slots system n) (slot_at system n)) → HasPreemption w system n
    by_told (Nobody e) = NoPreemption (preemptions_alone w system (slots system n) (slot_at system n) on ∙ ap (sum_by w) e)
    by_told (Somebody job by is e) = OnePreemption job by is (preemption_value w system n job by on is)

-- the weight of a slot is that of the retry in it, where replies have none
pub data HasRetry (w : Event → ℕ) (system : System) (n : ℕ) : Type 0 where
  NoRetry : at_slot w system n ≡ 0 → HasRetry w system n
  OneRetry : (job : Job) (object item expected found : ℕ) → slot_at system n ≡ Decide job object None
      → at_slot w system n ≡ w (Retry n (so_far system job n).first job item expected found) → HasRetry w system n

pub retry_weight : (w : Event → ℕ) (system : System) (n : ℕ) → IsOnDecisions w
    → ((at first : ℕ) (job : Job) (item : ℕ) (answer : Answer) (tag : ℕ) → w (Reply at first job item answer tag) ≡ 0) → HasRetry w system n
retry_weight w system n on no_reply = by_slot (slot_at system n) refl
  where
    past : List Slot
    past = slots system n

    alone : (slot : Slot) → slot_at system n ≡ slot → at_slot w system n ≡ sum_by w (decision system past slot)
    alone slot e = decisions_alone w system past (slot_at system n) on ∙ ap (λ (s : Slot). sum_by w (decision system past s)) e

    by_slot : (slot : Slot) → slot_at system n ≡ slot → HasRetry w system n
    by_slot Idle e = NoRetry (alone Idle e)
    by_slot (Busy job) e = NoRetry (alone (Busy job) e)
    by_slot (Decide job object None) e =
        let p = progress system job past in
        OneRetry job object (p.complete + 1) (wins_below object p.first past) (wins object past) e
        (alone (Decide job object None) e
        ∙ one_weight w (Retry (length past) p.first job (p.complete + 1) (wins_below object p.first past) (wins object past))
        ∙ ap (λ (m : ℕ). w (Retry m p.first job (p.complete + 1) (wins_below object p.first past) (wins object past))) (slots_count system n))
    by_slot (Decide job object (Some entry)) e =
        let p = progress system job past in
        NoRetry (alone (Decide job object (Some entry)) e
        ∙ one_weight w (Reply (length past) p.first job (p.complete + 1) entry.reply entry.tag) ∙ no_reply (length past) p.first job (p.complete + 1) entry.reply entry.tag)

-- a slot has at least the weight of each release in it
made_weighs : (w : Event → ℕ) (make : Job → Event) (job : Job) (jobs : List Job) → In job jobs → w (make job) ≤ sum_by w (map make jobs)
made_weighs w make job [] h = elim h [ ]
made_weighs w make job (first ∷ jobs) h = elim h [
  | inl here ↦ let same_weight : w (make first) ≡ w (make job) = ap (λ (j : Job). w (make j)) here in omega (arith, same_weight, sum_by-cons w (make first) (map make jobs))
  | inr later ↦ omega (arith, made_weighs w make job jobs later, sum_by-cons w (make first) (map make jobs))
]

pub release_weighs : (w : Event → ℕ) (system : System) (n : ℕ) (job : Job) → IsValid system → IsJobOf system job → release system job ≡ n → w (Release n job) ≤ at_slot w system n
release_weighs w system n job valid known is =
    let here : is_released_at system n job ≡ true = grind (arith, nat_tests) in
    let told : w (Release n job) ≤ sum_by w (releases system n) =
    made_weighs w (Release n) job (jobs_where system n (is_released_at system n))
    (in_filter (is_released_at system n) job (all_jobs system n) here (in_all system n job valid known (omega (arith, is)))) in
    let same_sum : sum_by w (releases system (length (slots system n))) ≡ sum_by w (releases system n) = ap (λ (m : ℕ). sum_by w (releases system m)) (slots_count system n) in
    omega (arith, of_slot w system (slots system n) (slot_at system n), told, same_sum)
