-- The choice once a task has a job to offer.
use Rattle.std.proofs.Common.{ℕ, zero, suc, ◌≡◌, ◌≢◌, ◌≤◌, ◌<◌, ◌+◌, nat_lt, not, Bool, true, false, if◌then◌else◌, List, length, slice_set, Option, Some, None, refl, sym, ◌∙◌, ap, arith}
use Rattle.std.proofs.Math.Decide.{dec_le}
use Rattle.std.proofs.lemmas.Bool.{false≢true}
use Rattle.std.proofs.lemmas.Bool.Decides.{nat_tests}
use Rattle.std.proofs.lemmas.List.{get_or-set_other}
use Rattle.std.proofs.lemmas.Grind.{get_or-set_at}
use Rattle.rx_set.specs.declared.jobs.Job.{Job}
use Rattle.rx_set.specs.System.{System, key, is_below}
use Rattle.rx_set.proofs.Keys.{below_trans, below_swap, jobs_same}
use Rattle.rx_tick.specs.declared.states.State.{State}
use Rattle.rx_slots.specs.Schedule.{sooner}
use Rattle.rx_tick.specs.States.{job, no_state, state_at, offer, with_offer, best_of}
use Rattle.rx_tick.proofs.Moves.{best_set}

-- of two jobs of different tasks one is sooner
module _ (system : System) (a c : Job) (known_a : a.task < length system.tasks) (known_c : c.task < length system.tasks) (apart : a.task ≢ c.task) where
  below_is : is_below (key system a) (key system c) ≡ not (is_below (key system c) (key system a))
  below_is = by_tests (is_below (key system a) (key system c)) (is_below (key system c) (key system a)) refl refl
    where
      by_tests : (w z : Bool) → is_below (key system a) (key system c) ≡ w → is_below (key system c) (key system a) ≡ z → w ≡ not z
      by_tests true true e f = absurd (false≢true (sym (below_swap (key system c) (key system a) f) ∙ e))
      by_tests true false e f = refl
      by_tests false true e f = refl
      by_tests false false e f = absurd (apart (ap (λ (j : Job). j.task) (jobs_same system a c known_a known_c e f)))

  -- two jobs may be compared in either order
  comm_some : (b : Job) (x y z : Bool) → is_below (key system a) (key system b) ≡ x → is_below (key system c) (key system b) ≡ y → is_below (key system c) (key system a) ≡ z
      → sooner system (sooner system (Some b) a) c ≡ sooner system (sooner system (Some b) c) a
  comm_some b x y z ex ey ez = left x ex ∙ middle x y z ex ey ez ∙ sym (right y ey)
    where
      left : (t : Bool) → is_below (key system a) (key system b) ≡ t → sooner system (sooner system (Some b) a) c
          ≡ (if t then (if is_below (key system c) (key system a) then Some c else Some a) else (if is_below (key system c) (key system b) then Some c else Some b))
      left true e = ap (λ (t : Bool). sooner system (if t then Some a else Some b) c) e
      left false e = ap (λ (t : Bool). sooner system (if t then Some a else Some b) c) e

      right : (t : Bool) → is_below (key system c) (key system b) ≡ t → sooner system (sooner system (Some b) c) a
          ≡ (if t then (if is_below (key system a) (key system c) then Some a else Some c) else (if is_below (key system a) (key system b) then Some a else Some b))
      right true e = ap (λ (t : Bool). sooner system (if t then Some c else Some b) a) e
      right false e = ap (λ (t : Bool). sooner system (if t then Some c else Some b) a) e

      ac : (t : Bool) → is_below (key system c) (key system a) ≡ t → is_below (key system a) (key system c) ≡ not t
      ac t e = below_is ∙ ap not e

      middle : (x y z : Bool) → is_below (key system a) (key system b) ≡ x → is_below (key system c) (key system b) ≡ y → is_below (key system c) (key system a) ≡ z
          → (if x then (if is_below (key system c) (key system a) then Some c else Some a) else (if is_below (key system c) (key system b) then Some c else Some b))
          ≡ (if y then (if is_below (key system a) (key system c) then Some a else Some c) else (if is_below (key system a) (key system b) then Some a else Some b))
      middle true true true ex ey ez =
          ap (λ (t : Bool). if t then Some c else Some a) ez ∙ sym (ap (λ (t : Bool). if t then Some a else Some c) (ac true ez))
      middle true true false ex ey ez =
          ap (λ (t : Bool). if t then Some c else Some a) ez ∙ sym (ap (λ (t : Bool). if t then Some a else Some c) (ac false ez))
      middle true false true ex ey ez = absurd (false≢true (sym ey ∙ below_trans (key system c) (key system a) (key system b) ez ex))
      middle true false false ex ey ez =
          ap (λ (t : Bool). if t then Some c else Some a) ez ∙ sym (ap (λ (t : Bool). if t then Some a else Some b) ex)
      middle false true true ex ey ez =
          ap (λ (t : Bool). if t then Some c else Some b) ey ∙ sym (ap (λ (t : Bool). if t then Some a else Some c) (ac true ez))
      middle false true false ex ey ez = absurd (false≢true (sym ex ∙ below_trans (key system a) (key system c) (key system b) (ac false ez) ey))
      middle false false z ex ey ez =
          ap (λ (t : Bool). if t then Some c else Some b) ey ∙ sym (ap (λ (t : Bool). if t then Some a else Some b) ex)

  comm_none : (z : Bool) → is_below (key system c) (key system a) ≡ z → sooner system (Some a) c ≡ sooner system (Some c) a
  comm_none true e = ap (λ (t : Bool). if t then Some c else Some a) e ∙ sym (ap (λ (t : Bool). if t then Some a else Some c) (below_is ∙ ap not e))
  comm_none false e = ap (λ (t : Bool). if t then Some c else Some a) e ∙ sym (ap (λ (t : Bool). if t then Some a else Some c) (below_is ∙ ap not e))

  sooner_comm : (best : Option Job) → sooner system (sooner system best a) c ≡ sooner system (sooner system best c) a
  sooner_comm None = comm_none (is_below (key system c) (key system a)) refl
  sooner_comm (Some b) = comm_some b (is_below (key system a) (key system b)) (is_below (key system c) (key system b)) (is_below (key system c) (key system a)) refl refl refl

-- so may the offers of two tasks
offer_comm : (system : System) (best : Option Job) (a c : ℕ) (s t : State) → a < length system.tasks → c < length system.tasks → a ≢ c
    → offer system (offer system best a s) c t ≡ offer system (offer system best c t) a s
offer_comm system best a c s t known_a known_c apart = by_tests (nat_lt s.finished s.released) (nat_lt t.finished t.released)
  where
    by_tests : (x y : Bool)
        → (if y then sooner system (if x then sooner system best (job a (s.finished + 1)) else best) (job c (t.finished + 1)) else (if x then sooner system best (job a (s.finished + 1)) else best))
        ≡ (if x then sooner system (if y then sooner system best (job c (t.finished + 1)) else best) (job a (s.finished + 1)) else (if y then sooner system best (job c (t.finished + 1)) else best))
    by_tests true true = sooner_comm system (job a (s.finished + 1)) (job c (t.finished + 1)) known_a known_c apart best
    by_tests true false = refl
    by_tests false true = refl
    by_tests false false = refl

module _ (system : System) (states : List State) (task : ℕ) (new : State) (inside : task < length states) (known : task < length system.tasks) where
  -- the tasks before choose as before
  below_task : (tasks : ℕ) → tasks ≤ task → best_of system tasks (slice_set states task new) ≡ best_of system tasks states
  below_task zero h = refl
  below_task (suc tasks) h =
      ap (λ (best : Option Job). offer system best tasks (state_at (slice_set states task new) tasks)) (below_task tasks (omega arith))
      ∙ ap (offer system (best_of system tasks states) tasks) (get_or-set_other states task tasks new no_state (λ e. absurd (omega arith)))

  -- a task that offered nothing offers a job
  joined : nat_lt (state_at states task).finished (state_at states task).released ≡ false → (tasks : ℕ) → task < tasks → tasks ≤ length system.tasks
      → best_of system tasks (slice_set states task new) ≡ offer system (best_of system tasks states) task new
  joined none zero h few = absurd (omega arith)
  joined none (suc tasks) h few = elim (dec_le (suc task) tasks) [
    | yes above ↦
        ap (λ (best : Option Job). offer system best tasks (state_at (slice_set states task new) tasks)) (joined none tasks (omega arith) (omega arith))
        ∙ ap (offer system (offer system (best_of system tasks states) task new) tasks) (get_or-set_other states task tasks new no_state (λ e. absurd (omega arith)))
        ∙ offer_comm system (best_of system tasks states) task tasks new (state_at states tasks) known (omega arith) (λ e. absurd (omega arith))
    | no here ↦ at_task (omega arith)
  ]
    where
      at_task : tasks ≡ task → best_of system (suc tasks) (slice_set states task new) ≡ offer system (best_of system (suc tasks) states) task new
      at_task same =
          ap (λ (best : Option Job). offer system best tasks (state_at (slice_set states task new) tasks)) (below_task tasks (omega arith))
          ∙ ap (offer system (best_of system tasks states) tasks) (get_or-set_at states task tasks new no_state same inside)
          ∙ ap (λ (t : ℕ). offer system (best_of system tasks states) t new) same
          ∙ sym (ap (λ (b : Bool). offer system (if b then sooner system (best_of system tasks states) (job tasks ((state_at states tasks).finished + 1)) else best_of system tasks states) task new)
          (ap (λ (t : ℕ). nat_lt (state_at states t).finished (state_at states t).released) same ∙ none))

  -- the soonest job after the task's state has changed
  pub best_with : new.finished ≡ (state_at states task).finished → (state_at states task).released ≤ new.released
      → best_of system (length system.tasks) (slice_set states task new) ≡ with_offer system (best_of system (length system.tasks) states) task (state_at states task) new
  best_with finished released = by_test (nat_lt (state_at states task).finished (state_at states task).released) refl
    where
      by_test : (b : Bool) → nat_lt (state_at states task).finished (state_at states task).released ≡ b
          → best_of system (length system.tasks) (slice_set states task new) ≡ (if b then best_of system (length system.tasks) states else offer system (best_of system (length system.tasks) states) task new)
      by_test true e =
          let before : (state_at states task).finished < (state_at states task).released = grind (arith, nat_tests) in
          let after : nat_lt new.finished new.released ≡ true = grind (arith, nat_tests) in
          best_set system states task new inside (after ∙ sym e) finished (length system.tasks)
      by_test false e = joined e (length system.tasks) known (omega arith)
