-- How totals grow.
use Rattle.std.proofs.Common.{ℕ, ◌≡◌, ◌≤◌, ◌<◌, ◌+◌, ◌^◌, List, [], ◌∷◌, ◌++◌, Option, Some, None, is_some, Bool, true, false, fold, length, length-take, take, get_or, refl, sym, ap, ◌∙◌, append_assoc, append-nil, add-zero, add-one, arith}
use Rattle.std.proofs.lemmas.Grind.{common_steps, fold-append, take_at_read}
use Rattle.rx_set.specs.declared.jobs.Job.{Job}
use Rattle.rx_set.specs.System.{System}
use Rattle.rx_ledger.specs.declared.events.Event.{Event}
use Rattle.rx_ledger.specs.declared.events.Event.TheVariants.{Miss, Release, Preempt, Reply, Retry, Finish}
use Rattle.rx_ledger.specs.declared.totals.Totals.{Totals}
use Rattle.rx_ledger.specs.Counts.{AreBelow, counted, with_slot}
use Rattle.rx_slots.specs.Schedule.{Slot, slots, slot_at, job_in}
use Rattle.rx_slots.specs.Events.{events, events_of, misses}
use Rattle.rx_slots.specs.Counts.{totals_of}
use Rattle.rx_trace.specs.Report.{run_totals}
use Rattle.rx_trace.specs.Runs.{AreCounts}

-- one more event
pub counted_is : (past : List Slot) (before : List Event) (event : Event) → counted (totals_of past before) event ≡ totals_of past (before ++ event ∷ [])
counted_is past before (Miss at job) = simp (fold-append, add-zero) refl
counted_is past before (Release at job) = simp (fold-append, add-zero) refl
counted_is past before (Preempt at job by) = simp (fold-append, add-zero) refl
counted_is past before (Reply at first job item reply tag) = simp (fold-append, add-zero) refl
counted_is past before (Retry at first job item expected found) = simp (fold-append, add-zero) refl
counted_is past before (Finish at job) = simp (fold-append, add-zero) refl

-- more events
pub fold_counted : (past : List Slot) (before told : List Event) → fold counted (totals_of past before) told ≡ totals_of past (before ++ told)
fold_counted past before [] = ap (totals_of past) (sym (append-nil before))
fold_counted past before (event ∷ told) =
    ap (λ (t : Totals). fold counted t told) (counted_is past before event)
    ∙ fold_counted past (before ++ event ∷ []) told
    ∙ ap (totals_of past) (append_assoc before (event ∷ []) told)

-- one more slot, which is busy where it has a job
slot_counted : (past : List Slot) (before : List Event) (slot : Slot) (job : Option Job) → job_in slot ≡ job
    → with_slot (totals_of past before) (is_some job) ≡ totals_of (slot ∷ past) before
slot_counted past before slot None e = rw (e, add-one (length past)) refl
slot_counted past before slot (Some job) e = rw (e, add-one (length past), add-zero) refl

-- one more event raises each number by 1 at most
pub below_counted : (most : ℕ) (t : Totals) (event : Event) → AreBelow most t → AreBelow (most + 1) (counted t event)
below_counted most t (Miss at job) below = grind (arith, common_steps)
below_counted most t (Release at job) below = grind (arith, common_steps)
below_counted most t (Preempt at job by) below = grind (arith, common_steps)
below_counted most t (Reply at first job item reply tag) below = grind (arith, common_steps)
below_counted most t (Retry at first job item expected found) below = grind (arith, common_steps)
below_counted most t (Finish at job) below = grind (arith, common_steps)

-- a number below one limit is below a larger one
below_more : (least most : ℕ) (t : Totals) → least ≤ most → AreBelow least t → AreBelow most t
below_more least most t h below = grind (arith, common_steps)

below_fold : (most : ℕ) (t : Totals) (told : List Event) → AreBelow most t → AreBelow (most + length told) (fold counted t told)
below_fold most t [] below = below_more most _ t (omega arith) below
below_fold most t (event ∷ told) below = below_more _ _ _ (omega arith) (below_fold (most + 1) (counted t event) told (below_counted most t event below))

-- what may be counted after some of the events of a slot
pub small_so_far : (t u : Totals) (told : List Event) (i : ℕ) → u ≡ fold counted t (take i told) → length told ≤ 131 → AreBelow (2 ^ 62) t → AreBelow (2 ^ 63) u
small_so_far t u told i e few small = rw e (below_more _ _ _ (omega (arith, length-take i told)) (below_fold (2 ^ 62) t (take i told) small))

-- what is counted after one event more of those of a time
pub counted_taken : (t u v : Totals) (told : List Event) (place : ℕ) (d : Event) → u ≡ fold counted t (take place told) → place < length told → v ≡ counted u (get_or told place d) → v ≡ fold counted t (take (place + 1) told)
counted_taken t u v told place d so_far inside more =
    more ∙ ap (λ w. counted w (get_or told place d)) so_far
    ∙ sym (fold-append counted t (take place told) (get_or told place d ∷ [])) ∙ ap (fold counted t) (sym (take_at_read told place d inside).1)

-- what may be counted before a slot or the end
pub small_enough : (system : System) (n : ℕ) (t : Totals) → n ≤ 1000000 → AreCounts system n t → AreBelow (2 ^ 62) t
small_enough system n t h counts = below_more _ _ t (omega arith) counts.small

below_slot : (most : ℕ) (t : Totals) (busy : Bool) → AreBelow most t → AreBelow (most + 1) (with_slot t busy)
below_slot most t true below = grind (arith, common_steps)
below_slot most t false below = grind (arith, common_steps)

pub small_after_slot : (system : System) (n : ℕ) (t : Totals) (busy : Bool) → n ≤ 1000000 → AreCounts system n t → AreBelow (2 ^ 62) (with_slot t busy)
small_after_slot system n t busy h counts = below_more _ _ _ (omega arith) (below_slot _ t busy counts.small)

-- the totals of one more slot
pub counts_next : (system : System) (n : ℕ) (t u v : Totals) (job : Option Job) (told : List Event)
    → AreCounts system n t → job ≡ job_in (slot_at system n) → told ≡ events_of system (slots system n) (slot_at system n) → length told ≤ 131
    → u ≡ with_slot t (is_some job) → v ≡ fold counted u told → AreCounts system (n + 1) v
counts_next system n t u v job told before slot same few one all = record {
  totals_are =
      all ∙ ap (λ (w : Totals). fold counted w told) (one ∙ ap (λ (w : Totals). with_slot w (is_some job)) before.totals_are
      ∙ slot_counted (slots system n) (events system n) (slot_at system n) job (sym slot))
      ∙ fold_counted (slot_at system n ∷ slots system n) (events system n) told
      ∙ ap (λ more. totals_of (slot_at system n ∷ slots system n) (events system n ++ more)) same
      ∙ rw (add-one n) refl;
  small = rw (all, one) (below_more _ _ _ (omega arith) (below_fold _ _ told (below_slot _ t (is_some job) before.small)));
}

-- the totals of the whole run
pub counts_end : (system : System) (n : ℕ) (t u : Totals) (late : List Event)
    → AreCounts system n t → late ≡ misses system (slots system n) → u ≡ fold counted t late → u ≡ run_totals system n
counts_end system n t u late before e all =
    all ∙ ap (λ (w : Totals). fold counted w late) before.totals_are
    ∙ fold_counted (slots system n) (events system n) late
    ∙ ap (λ more. totals_of (slots system n) (events system n ++ more)) e
