-- Preemptions are releases.
use Rattle.std.proofs.Common.{ℕ, zero, suc, ◌≡◌, ◌≢◌, ◌&&◌, not, Bool, true, false, if◌then◌else◌, List, [], ◌∷◌, length, Option, Some, None, refl, sym, ◌∙◌, ap, arith, subst}
use Rattle.std.proofs.Math.Decide.{dec_le}
use Rattle.std.proofs.lemmas.Bool.{false≢true}
use Rattle.rx_set.specs.declared.jobs.Job.{Job}
use Rattle.rx_set.specs.System.{System, release, key, is_below}
use Rattle.rx_set.specs.Valid.{IsValid}
use Rattle.rx_set.proofs.Keys.{jobs_same}
use Rattle.rx_ledger.specs.declared.events.Event.{Event}
use Rattle.rx_ledger.specs.declared.events.Event.TheVariants.{Preempt}
use Rattle.rx_slots.specs.Schedule.{Slot, same, is_finished, slots, slot_at}
use Rattle.rx_slots.specs.Events.{preempted, preemption}
use Rattle.rx_slots.specs.Laws.{who, finished_before, IsPendingAt, IsPreemption}
use Rattle.rx_slots.proofs.Prefixes.{slots_count}
use Rattle.rx_slots.proofs.Choices.{both, not_true, who_pending, who_least}
use Rattle.rx_slots.proofs.Steps.{same_self, same_is, unfinished_before}

-- the preempting job was released in that slot: else it was pending in the slot before, and neither key is lower
pub preempting_released : (system : System) (at : ℕ) (job by : Job) → IsValid system → IsPreemption system at job by → release system by ≡ at
preempting_released system at job by valid h =
    let was : IsPendingAt system h.before job = who_pending system h.before job h.had in
    let is : IsPendingAt system at by = who_pending system at by h.has in
    elim (dec_le (release system by) h.before) [
      | yes early ↦
          let there : IsPendingAt system h.before by = record { known = is.known; released = early; unfinished = unfinished_before system by h.before at (omega (arith, h.follows)) is.unfinished } in
          let here : IsPendingAt system at job = record { known = was.known; released = omega (arith, was.released, h.follows); unfinished = h.unfinished } in
          absurd (h.other (jobs_same system job by was.known.task is.known.task
          ((who_least system at by valid h.has).least job here) ((who_least system h.before job valid h.had).least by there)))
      | no late ↦ omega (arith, is.released, h.follows)
    ]

-- and its key is lower
pub preempting_below : (system : System) (at : ℕ) (job by : Job) → IsValid system → IsPreemption system at job by → is_below (key system by) (key system job) ≡ true
preempting_below system at job by valid h = by_test (is_below (key system by) (key system job)) refl
  where
    was : IsPendingAt system h.before job
    was = who_pending system h.before job h.had

    is : IsPendingAt system at by
    is = who_pending system at by h.has

    here : IsPendingAt system at job
    here = record { known = was.known; released = omega (arith, was.released, h.follows); unfinished = h.unfinished }

    by_test : (b : Bool) → is_below (key system by) (key system job) ≡ b → is_below (key system by) (key system job) ≡ true
    by_test true e = e
    by_test false e = absurd (h.other (jobs_same system job by was.known.task is.known.task ((who_least system at by valid h.has).least job here) e))

differ : (job by : Job) → job ≢ by → same job by ≡ false
differ job by h = by_test (same job by) refl
  where
    by_test : (b : Bool) → same job by ≡ b → same job by ≡ false
    by_test true e = absurd (h (same_is job by e))
    by_test false e = e

told_here : (system : System) (n : ℕ) (job by : Job) → who system n ≡ Some job → finished_before system job (suc n) ≡ false → who system (suc n) ≡ Some by → job ≢ by
    → preemption system (slots system (suc n)) (slot_at system (suc n)) ≡ Preempt (suc n) job by ∷ []
told_here system n job by had unfinished has other =
    let past : List Slot = slots system (suc n) in
    ap (λ (o : Option Job). preempted system past o (who system (suc n))) had
    ∙ ap (λ (o : Option Job). preempted system past (Some job) o) has
    ∙ ap (λ (b : Bool). if not b && not (is_finished system past job) then Preempt (length past) job by ∷ [] else []) (differ job by other)
    ∙ ap (λ (b : Bool). if not b then Preempt (length past) job by ∷ [] else []) unfinished
    ∙ ap (λ (m : ℕ). Preempt m job by ∷ []) (slots_count system (suc n))

-- each preemption is told by its slot
pub preemption_told : (system : System) (n : ℕ) (job by : Job) → IsPreemption system n job by → preemption system (slots system n) (slot_at system n) ≡ Preempt n job by ∷ []
preemption_told system n job by h =
    subst (λ (k : ℕ). preemption system (slots system k) (slot_at system k) ≡ Preempt k job by ∷ []) (sym h.follows)
    (told_here system h.before job by h.had
    (subst (λ (k : ℕ). finished_before system job k ≡ false) h.follows h.unfinished)
    (subst (λ (k : ℕ). who system k ≡ Some by) h.follows h.has) h.other)

-- what is told of the preemption in slot n: none, or the one that there is
pub data IsTaken (system : System) (n : ℕ) (told : List Event) : Type 0 where
  Nobody : told ≡ [] → IsTaken system n told
  Somebody : (job by : Job) → IsPreemption system n job by → told ≡ Preempt n job by ∷ [] → IsTaken system n told

pub taken_at : (system : System) (n : ℕ) → IsTaken system n (preemption system (slots system n) (slot_at system n))
taken_at system zero = Nobody refl
taken_at system (suc n) = by_owners (who system n) refl (who system (suc n)) refl
  where
    past : List Slot
    past = slots system (suc n)

    by_test : (job by : Job) → who system n ≡ Some job → who system (suc n) ≡ Some by → (b : Bool) → (not (same job by) && not (is_finished system past job)) ≡ b
        → IsTaken system (suc n) (if b then Preempt (length past) job by ∷ [] else [])
    by_test job by had has true e =
        let parts = both (not (same job by)) (not (is_finished system past job)) e in
        let is : IsPreemption system (suc n) job by = record {
          before = n;
          follows = refl;
          had = had;
          unfinished = not_true (is_finished system past job) parts.1;
          has = has;
          other = λ f. false≢true (sym (not_true (same job by) parts.0) ∙ ap (same job) (sym f) ∙ same_self job);
        } in
        Somebody job by is (ap (λ (m : ℕ). Preempt m job by ∷ []) (slots_count system (suc n)))
    by_test job by had has false e = Nobody refl

    by_owners : (o : Option Job) → who system n ≡ o → (p : Option Job) → who system (suc n) ≡ p → IsTaken system (suc n) (preempted system past o p)
    by_owners None had p has = Nobody refl
    by_owners (Some job) had None has = Nobody refl
    by_owners (Some job) had (Some by) has = by_test job by had has (not (same job by) && not (is_finished system past job)) refl
