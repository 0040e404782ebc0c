-- Rules for the events of a slot: what holds of each part holds of all, and what a part tells the schedule tells.
use Rattle.std.proofs.Common.{ℕ, zero, suc, ◌≡◌, ◌<◌, ◌+◌, ◌&&◌, not, Bool, true, false, if◌then◌else◌, List, [], ◌∷◌, ◌++◌, length, Option, Some, None, sym, arith, subst}
use Rattle.std.specs.List.{All, Contains}
use Rattle.std.proofs.Math.Decide.{dec_le}
use Rattle.std.proofs.lemmas.List.Elements.{All-nil, All-cons, All-append, All-map, Contains-append_left, Contains-append_right, Contains-push}
use Rattle.rx_seq.specs.declared.replies.Reply.{Reply as Answer}
use Rattle.rx_set.specs.declared.jobs.Job.{Job}
use Rattle.rx_set.specs.System.{System}
use Rattle.rx_ledger.specs.declared.events.Event.{Event}
use Rattle.rx_ledger.specs.declared.events.Event.TheVariants.{Miss, Release, Preempt, Reply, Retry, Finish}
use Rattle.rx_slots.specs.Schedule.{Slot, Idle, Busy, Decide, job_in, same, progress, is_finished, slots, slot_at}
use Rattle.rx_slots.specs.Events.{misses, is_missed, releases, is_released_at, jobs_where, wins, wins_below, preempted, preemption, last_job, decision, finished_in, finish, events_of, events}

pub all_one : (P : Event → Type 0) (event : Event) → P event → All P (event ∷ [])
all_one P event h = All-cons P event [] h (All-nil P)

all_if : (P : Event → Type 0) (event : Event) (told : Bool) → P event → All P (if told then event ∷ [] else [])
all_if P event true h = all_one P event h
all_if P event false h = All-nil P

module _ (P : Event → Type 0) (system : System) (past : List Slot) where
  -- the parts, kind by kind
  pub all_misses : ((job : Job) → P (Miss (length past) job)) → All P (misses system past)
  all_misses each = All-map P (Miss (length past)) (jobs_where system (length past) (is_missed system past)) (λ k d h. each _)

  pub all_releases : ((job : Job) → P (Release (length past) job)) → All P (releases system (length past))
  all_releases each = All-map P (Release (length past)) (jobs_where system (length past) (is_released_at system (length past))) (λ k d h. each _)

  all_preempted : ((job by : Job) → P (Preempt (length past) job by)) → (last now : Option Job) → All P (preempted system past last now)
  all_preempted each None now = All-nil P
  all_preempted each (Some job) None = All-nil P
  all_preempted each (Some job) (Some by) = all_if P (Preempt (length past) job by) (not (same job by) && not (is_finished system past job)) (each job by)

  pub all_preemption : (slot : Slot) → ((job by : Job) → P (Preempt (length past) job by)) → All P (preemption system past slot)
  all_preemption slot each = all_preempted each (last_job past) (job_in slot)

  pub all_decision : (slot : Slot) → ((first : ℕ) (job : Job) (item : ℕ) (answer : Answer) (tag : ℕ) → P (Reply (length past) first job item answer tag))
      → ((first : ℕ) (job : Job) (item expected found : ℕ) → P (Retry (length past) first job item expected found)) → All P (decision system past slot)
  all_decision Idle reply retry = All-nil P
  all_decision (Busy job) reply retry = All-nil P
  all_decision (Decide job object None) reply retry =
      let p = progress system job past in
      all_one P (Retry (length past) p.first job (p.complete + 1) (wins_below object p.first past) (wins object past)) (retry p.first job (p.complete + 1) (wins_below object p.first past) (wins object past))
  all_decision (Decide job object (Some entry)) reply retry =
      let p = progress system job past in
      all_one P (Reply (length past) p.first job (p.complete + 1) entry.reply entry.tag) (reply p.first job (p.complete + 1) entry.reply entry.tag)

  all_finished : (slot : Slot) → ((job : Job) → P (Finish (length past) job)) → (o : Option Job) → All P (finished_in system past slot o)
  all_finished slot each None = All-nil P
  all_finished slot each (Some job) = all_if P (Finish (length past) job) (is_finished system (slot ∷ past) job) (each job)

  pub all_finish : (slot : Slot) → ((job : Job) → P (Finish (length past) job)) → All P (finish system past slot)
  all_finish slot each = all_finished slot each (job_in slot)

  -- what holds of the events of each part of a slot holds of all of them
  pub all_of_slot : (slot : Slot) → All P (misses system past) → All P (releases system (length past)) → All P (preemption system past slot) → All P (decision system past slot)
      → All P (finish system past slot) → All P (events_of system past slot)
  all_of_slot slot a b c d e =
      let missed = misses system past in
      let released = releases system (length past) in
      let taken = preemption system past slot in
      let decided = decision system past slot in
      All-append P (missed ++ released ++ taken ++ decided) (finish system past slot)
      (All-append P (missed ++ released ++ taken) decided (All-append P (missed ++ released) taken (All-append P missed released a b) c) d) e

-- and what holds of the events of each slot holds of the schedule's
pub all_events : (P : Event → Type 0) (system : System) (n : ℕ) → ((k : ℕ) → k < n → All P (events_of system (slots system k) (slot_at system k))) → All P (events system n)
all_events P system zero each = All-nil P
all_events P system (suc n) each =
    All-append P (events system n) (events_of system (slots system n) (slot_at system n)) (all_events P system n (λ k h. each k (omega (arith, h)))) (each n (omega arith))

-- what a part tells its slot tells, and what a slot tells the schedule tells
pub preemption_in : (system : System) (past : List Slot) (slot : Slot) (event : Event) → preemption system past slot ≡ event ∷ [] → Contains (events_of system past slot) event
preemption_in system past slot event told =
    let before = misses system past ++ releases system (length past) in
    Contains-append_left (before ++ preemption system past slot ++ decision system past slot) (finish system past slot) event
    (Contains-append_left (before ++ preemption system past slot) (decision system past slot) event
    (Contains-append_right before (preemption system past slot) event
    (subst (λ (es : List Event). Contains es event) (sym told) (Contains-push [] event))))

pub decision_in : (system : System) (past : List Slot) (slot : Slot) (event : Event) → decision system past slot ≡ event ∷ [] → Contains (events_of system past slot) event
decision_in system past slot event told =
    let before = misses system past ++ releases system (length past) ++ preemption system past slot in
    Contains-append_left (before ++ decision system past slot) (finish system past slot) event
    (Contains-append_right before (decision system past slot) event
    (subst (λ (es : List Event). Contains es event) (sym told) (Contains-push [] event)))

pub in_events : (system : System) (n at : ℕ) (event : Event) → at < n → Contains (events_of system (slots system at) (slot_at system at)) event → Contains (events system n) event
in_events system zero at event early told = absurd (omega arith)
in_events system (suc n) at event early told = elim (dec_le n at) [
  | yes now ↦
      let same_time : at ≡ n = omega arith in
      Contains-append_right (events system n) (events_of system (slots system n) (slot_at system n)) event
      (subst (λ (t : ℕ). Contains (events_of system (slots system t) (slot_at system t)) event) same_time told)
  | no before ↦ Contains-append_left (events system n) (events_of system (slots system n) (slot_at system n)) event (in_events system n at event (omega arith) told)
]
