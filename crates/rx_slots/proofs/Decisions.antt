-- Preemptions, replies and retries are told.
use Rattle.std.proofs.Common.{ℕ, ◌≡◌, ◌<◌, ◌+◌, List, [], ◌∷◌, length, Some, None, refl, sym, ◌∙◌, ap, arith, subst}
use Rattle.std.specs.List.{All, Contains}
use Rattle.std.proofs.lemmas.List.Elements.{All-nil, All-same, All-contains}
use Rattle.rx_seq.specs.History.{tag_of}
use Rattle.rx_seq.specs.declared.replies.Reply.{Reply as Answer}
use Rattle.rx_set.specs.declared.jobs.Job.{Job}
use Rattle.rx_set.specs.System.{System}
use Rattle.rx_ledger.specs.declared.events.Event.{Event}
use Rattle.rx_ledger.specs.declared.events.Event.TheVariants.{Miss, Release, Preempt, Reply, Retry, Finish}
use Rattle.rx_slots.specs.Schedule.{Slot, Idle, Busy, Decide, history, slots, slot_at}
use Rattle.rx_slots.specs.Events.{wins, wins_below, preemption, decision, events_of, events}
use Rattle.rx_slots.specs.Laws.{so_far, IsPreemption, IsReply, IsRetry}
use Rattle.rx_slots.proofs.Prefixes.{slots_count}
use Rattle.rx_slots.proofs.SlotEvents.{all_one, all_misses, all_releases, all_finish, all_of_slot, all_events, preemption_in, decision_in, in_events}
use Rattle.rx_slots.proofs.Preemptions.{IsTaken, Nobody, Somebody, taken_at, preemption_told}
use Rattle.rx_slots.proofs.Attempts.{decided_begun}
use Rattle.rx_slots.proofs.Entries.{wins_tags, wins_before}

-- an event that tells a preemption or the end of an attempt tells one that is before a time
abbrev IsTrueTo : System → ℕ → Event → Type 0
IsTrueTo system limit (Miss at job) = Unit {0}
IsTrueTo system limit (Release at job) = Unit {0}
IsTrueTo system limit (Preempt at job by) = (at < limit) × IsPreemption system at job by
IsTrueTo system limit (Reply at first job item answer tag) = (at < limit) × IsReply system at first job item answer tag
IsTrueTo system limit (Retry at first job item expected found) = (at < limit) × IsRetry system at first job item expected found
IsTrueTo system limit (Finish at job) = Unit {0}

taken_true : (system : System) (limit n : ℕ) → n < limit → (told : List Event) → IsTaken system n told → All (IsTrueTo system limit) told
taken_true system limit n early told (Nobody e) = All-same (IsTrueTo system limit) told [] e (All-nil (IsTrueTo system limit))
taken_true system limit n early told (Somebody job by is e) =
    All-same (IsTrueTo system limit) told (Preempt n job by ∷ []) e (all_one (IsTrueTo system limit) (Preempt n job by) (early, is))

decided_true : (system : System) (limit n : ℕ) → n < limit → (slot : Slot) → slot_at system n ≡ slot → All (IsTrueTo system limit) (decision system (slots system n) slot)
decided_true system limit n early Idle e = All-nil (IsTrueTo system limit)
decided_true system limit n early (Busy job) e = All-nil (IsTrueTo system limit)
decided_true system limit n early (Decide job object None) e =
    let past : List Slot = slots system n in
    let p = so_far system job n in
    let before : p.first < n = (decided_begun system n job object None e).before in
    let told : IsRetry system n p.first job (p.complete + 1) (wins_below object p.first past) (wins object past) = record {
      object = object;
      loses = e;
      begins = refl;
      number = refl;
      expects = wins_before system object p.first n (omega arith) ∙ wins_tags object (slots system p.first);
      finds = wins_tags object past;
    } in
    all_one (IsTrueTo system limit) (Retry (length past) p.first job (p.complete + 1) (wins_below object p.first past) (wins object past))
    (subst (λ (m : ℕ). (m < limit) × IsRetry system m p.first job (p.complete + 1) (wins_below object p.first past) (wins object past)) (sym (slots_count system n)) (early, told))
decided_true system limit n early (Decide job object (Some entry)) e =
    let past : List Slot = slots system n in
    let p = so_far system job n in
    let told : IsReply system n p.first job (p.complete + 1) entry.reply entry.tag = record {
      object = object;
      entry = entry;
      wins = e;
      begins = refl;
      number = refl;
      replies = refl;
      tags = refl;
    } in
    all_one (IsTrueTo system limit) (Reply (length past) p.first job (p.complete + 1) entry.reply entry.tag)
    (subst (λ (m : ℕ). (m < limit) × IsReply system m p.first job (p.complete + 1) entry.reply entry.tag) (sym (slots_count system n)) (early, told))

-- all that is told is true
all_true : (system : System) (n : ℕ) → All (IsTrueTo system n) (events system n)
all_true system n = all_events (IsTrueTo system n) system n of_slot
  where
    of_slot : (k : ℕ) → k < n → All (IsTrueTo system n) (events_of system (slots system k) (slot_at system k))
    of_slot k early =
        let past = slots system k in
        let slot = slot_at system k in
        all_of_slot (IsTrueTo system n) system past slot
        (all_misses (IsTrueTo system n) system past (λ job. tt))
        (all_releases (IsTrueTo system n) system past (λ job. tt))
        (taken_true system n k early (preemption system past slot) (taken_at system k))
        (decided_true system n k early slot refl)
        (all_finish (IsTrueTo system n) system past slot (λ job. tt))

pub preemption_true : (system : System) (n at : ℕ) (job by : Job) → Contains (events system n) (Preempt at job by) → (at < n) × IsPreemption system at job by
preemption_true system n at job by h = All-contains (IsTrueTo system n) (events system n) (Preempt at job by) (all_true system n) h

pub reply_true : (system : System) (n at first : ℕ) (job : Job) (item : ℕ) (answer : Answer) (tag : ℕ) → Contains (events system n) (Reply at first job item answer tag)
    → (at < n) × IsReply system at first job item answer tag
reply_true system n at first job item answer tag h = All-contains (IsTrueTo system n) (events system n) (Reply at first job item answer tag) (all_true system n) h

pub retry_true : (system : System) (n at first : ℕ) (job : Job) (item expected found : ℕ) → Contains (events system n) (Retry at first job item expected found)
    → (at < n) × IsRetry system at first job item expected found
retry_true system n at first job item expected found h = All-contains (IsTrueTo system n) (events system n) (Retry at first job item expected found) (all_true system n) h

-- and each preemption, each reply and each retry is told
pub true_preemption : (system : System) (n at : ℕ) (job by : Job) → at < n → IsPreemption system at job by → Contains (events system n) (Preempt at job by)
true_preemption system n at job by early h =
    in_events system n at (Preempt at job by) early (preemption_in system (slots system at) (slot_at system at) (Preempt at job by) (preemption_told system at job by h))

pub true_reply : (system : System) (n at first : ℕ) (job : Job) (item : ℕ) (answer : Answer) (tag : ℕ) → at < n → IsReply system at first job item answer tag
    → Contains (events system n) (Reply at first job item answer tag)
true_reply system n at first job item answer tag early h =
    let p = so_far system job at in
    let time : length (slots system at) ≡ at = slots_count system at in
    let event : Reply (length (slots system at)) p.first job (p.complete + 1) h.entry.reply h.entry.tag ≡ Reply at first job item answer tag = cc (h.begins, h.number, h.replies, h.tags) in
    in_events system n at (Reply at first job item answer tag) early
    (decision_in system (slots system at) (slot_at system at) (Reply at first job item answer tag) (ap (decision system (slots system at)) h.wins ∙ ap (λ (x : Event). x ∷ []) event))

pub true_retry : (system : System) (n at first : ℕ) (job : Job) (item expected found : ℕ) → at < n → IsRetry system at first job item expected found
    → Contains (events system n) (Retry at first job item expected found)
true_retry system n at first job item expected found early h =
    let p = so_far system job at in
    let time : length (slots system at) ≡ at = slots_count system at in
    let before : p.first < at = (decided_begun system at job h.object None h.loses).before in
    let expects : wins_below h.object p.first (slots system at) ≡ expected =
    wins_before system h.object p.first at (omega arith) ∙ wins_tags h.object (slots system p.first) ∙ ap (λ (t : ℕ). tag_of h.object (history (slots system t))) (sym h.begins) ∙ sym h.expects in
    let finds : wins h.object (slots system at) ≡ found = wins_tags h.object (slots system at) ∙ sym h.finds in
    let event : Retry (length (slots system at)) p.first job (p.complete + 1) (wins_below h.object p.first (slots system at)) (wins h.object (slots system at)) ≡ Retry at first job item expected found
    = cc (h.begins, h.number) in
    in_events system n at (Retry at first job item expected found) early
    (decision_in system (slots system at) (slot_at system at) (Retry at first job item expected found) (ap (decision system (slots system at)) h.loses ∙ ap (λ (x : Event). x ∷ []) event))
