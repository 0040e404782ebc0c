-- Who spoils an attempt: a job that came later and goes before its job, of a task that may change the object. So the charges
-- of the admission tests cover all retries.
use Rattle.std.proofs.Common.{ℕ, suc, ◌≡◌, ◌≢◌, ◌≤◌, ◌<◌, ◌+◌, ◌==◌, ◌&&◌, ◌||◌, nat_lt, nat_le, not, Bool, true, false, length, get_or, Some, None, refl, sym, ◌∙◌, ap, arith, subst}
use Rattle.std.specs.List.{slice_get}
use Rattle.std.proofs.Math.Decide.{dec_le}
use Rattle.std.proofs.lemmas.Bool.{false≢true, lt-ltb, le-leb}
use Rattle.std.proofs.lemmas.Bool.Decides.{nat_tests}
use Rattle.std.proofs.lemmas.Option.{slice_get_within, get_or_from_slice_get}
use Rattle.std.proofs.lemmas.List.Folds.{list_any_at}
use Rattle.rx_seq.specs.declared.calls.Call.{Call}
use Rattle.rx_seq.specs.declared.replies.Reply.{Reply}
use Rattle.rx_seq.specs.declared.entries.Entry.{Entry}
use Rattle.rx_seq.specs.Quiet.{is_still, is_quiet, tells_change}
use Rattle.rx_seq.specs.History.{is_loud}
use Rattle.rx_set.specs.declared.policies.Policy.{Policy}
use Rattle.rx_set.specs.declared.policies.Policy.TheVariants.{Rm, Dm, Edf}
use Rattle.rx_set.specs.declared.items.Item.{Item}
use Rattle.rx_set.specs.declared.items.Item.TheVariants.{Op}
use Rattle.rx_set.specs.declared.jobs.Job.{Job}
use Rattle.rx_set.specs.System.{System, task_at, task_of, parts_of, release, due, rank, key, key_by, is_below, attempt_cost, numbers}
use Rattle.rx_set.specs.Valid.{IsValid, IsJobOf}
use Rattle.rx_set.specs.Charges.{changes, may_change, level_by, level, can_spoil, is_exposed, where_passed, exposed_by, exposure, charge_edf}
use Rattle.rx_set.specs.Admission.{charge_of}
use Rattle.rx_seq.specs.Table.{attempt_steps}
use Rattle.rx_seq.specs.History.{part_at}
use Rattle.rx_set.proofs.Counts.{length-numbers, get_or-numbers}
use Rattle.rx_set.proofs.Exposed.{largest_at}
use Rattle.rx_set.proofs.Keys.{jobs_same}
use Rattle.rx_slots.specs.Schedule.{Slot, Idle, Busy, Decide, job_in, slot_at, wins_on}
use Rattle.rx_slots.specs.Laws.{who, so_far, finished_before, IsPendingAt, IsSpoiled}
use Rattle.rx_slots.specs.Charges.{IsHeld, IsFirstPreemption}
use Rattle.rx_slots.proofs.Choices.{both, who_pending, who_least}
use Rattle.rx_slots.proofs.Steps.{unfinished_before}
use Rattle.rx_slots.proofs.Shares.{stated_op}
use Rattle.rx_slots.proofs.Attempts.{IsDecision, decision_is, entry_made, lost_spoiled}
use Rattle.rx_slots.proofs.Charged.{held_at, held_begun, held_decided, winner_ends}
use Rattle.rx_slots.proofs.Preemptions.{preempting_released, preempting_below}
use Rattle.rx_slots.proofs.FixedKeys.{lower_rank, preempting_rank}

-- a job that may spoil another's attempt on an object: it is released later, its key is lower, and its task may change it
pub record IsSpoiler (system : System) (object : ℕ) (job by : Job) : Type 0 where
  pub known : IsJobOf system by
  pub below : is_below (key system by) (key system job) ≡ true
  pub later : release system job < release system by
  pub changes : may_change system object by.task ≡ true

both_true : (x y : Bool) → x ≡ true → y ≡ true → (x && y) ≡ true
both_true true true e f = refl
both_true true false e f = f
both_true false y e f = e

-- the number of an object, and that it is this one
same_number : (x y : ℕ) → (x == y) ≡ true → x ≡ y
same_number x y e = grind (arith, nat_tests)

is_number : (x y : ℕ) → x ≡ y → (x == y) ≡ true
is_number x y e = grind (arith, nat_tests)

-- a loud entry is of a call that is not still
loud_moves : (call : Call) (reply : Reply) → not (is_quiet call reply) ≡ true → not (is_still call) ≡ true
loud_moves call reply e = by_test (is_still call) refl
  where
    by_test : (b : Bool) → is_still call ≡ b → not (is_still call) ≡ true
    by_test false s = ap not s
    by_test true s = absurd (false≢true (sym (ap (λ (b : Bool). not (b || not (tells_change reply))) s) ∙ e))

-- an item that changes the object stands in the body
changes_at : (system : System) (object task place : ℕ) (item : Item) → place < length (task_at system task).items → slice_get (task_at system task).items place ≡ Some item → changes object item ≡ true → may_change system object task ≡ true
changes_at system object task place item inside is does =
    list_any_at (changes object) (task_at system task).items place item inside (ap (changes object) (get_or_from_slice_get (task_at system task).items place item item is) ∙ does)

-- who wins on an object, so that its tag rises, may change it
winner_changes : (system : System) (n object : ℕ) → wins_on object (slot_at system n) ≡ true → (by : Job) × (who system n ≡ Some by) × (may_change system object by.task ≡ true)
winner_changes system n object won = by_slot (slot_at system n) refl
  where
    by_entry : (by : Job) (other : ℕ) (entry : Entry) → slot_at system n ≡ Decide by other (Some entry) → (by : Job) × (who system n ≡ Some by) × (may_change system object by.task ≡ true)
    by_entry by other entry e =
        let parts = both (object == entry.object) (is_loud entry) (ap (wins_on object) (sym e) ∙ won) in
        let made = entry_made system n by other entry e in
        let place : ℕ = (so_far system by n).complete in
        let asked : slice_get (task_of system by).items place ≡ Some (Op other entry.call) = stated_op system.demands by (place + 1) other entry.call (slice_get (task_of system by).items place) made.asks in
        let inside : place < length (task_of system by).items = slice_get_within (task_of system by).items place (Op other entry.call) asked in
        let here : changes object (Op other entry.call) ≡ true =
        both_true (object == other) (not (is_still entry.call)) (is_number object other (same_number object entry.object parts.0 ∙ made.object_is)) (loud_moves entry.call entry.reply parts.1) in
        (by, ap job_in e, changes_at system object by.task place (Op other entry.call) inside asked here)

    by_slot : (slot : Slot) → slot_at system n ≡ slot → (by : Job) × (who system n ≡ Some by) × (may_change system object by.task ≡ true)
    by_slot Idle e = absurd (false≢true (ap (wins_on object) (sym e) ∙ won))
    by_slot (Busy job) e = absurd (false≢true (ap (wins_on object) (sym e) ∙ won))
    by_slot (Decide job other None) e = absurd (false≢true (ap (wins_on object) (sym e) ∙ won))
    by_slot (Decide job other (Some entry)) e = by_entry job other entry e

-- the job that has a slot goes before each other one that is pending
goes_before : (system : System) (n : ℕ) (job by : Job) → IsValid system → IsPendingAt system n job → IsPendingAt system n by → who system n ≡ Some by → job ≢ by → is_below (key system by) (key system job) ≡ true
goes_before system n job by valid mine its has other = by_test (is_below (key system by) (key system job)) refl
  where
    by_test : (b : Bool) → is_below (key system by) (key system job) ≡ b → is_below (key system by) (key system job) ≡ true
    by_test true e = e
    by_test false e = absurd (other (jobs_same system job by mine.known.task its.known.task ((who_least system n by valid has).least job mine) e))

-- a job of lower key that is not finished was not there yet when another had a slot
later_than : (system : System) (n : ℕ) (job by : Job) → IsValid system → who system n ≡ Some job → is_below (key system by) (key system job) ≡ true → finished_before system by n ≡ false → IsJobOf system by → release system job < release system by
later_than system n job by valid has below unfinished known = elim (dec_le (release system by) n) [
  | yes early ↦ absurd (false≢true (sym ((who_least system n job valid has).least by (record { known = known; released = early; unfinished = unfinished })) ∙ below))
  | no late ↦ omega (arith, late, (who_pending system n job has).released)
]

-- the spoiler of a retry
pub spoiler_of : (system : System) (n object : ℕ) (job : Job) → IsValid system → slot_at system n ≡ Decide job object None → (by : Job) × IsSpoiler system object job by
spoiler_of system n object job valid e =
    let first : ℕ = (so_far system job n).first in
    let spoiled : IsSpoiled system object first n = lost_spoiled system n job object None e refl in
    let held : IsHeld system n job first = held_decided system n job object None e in
    let began = held_begun system job first n held in
    let had : who system first ≡ Some job = ap job_in began.1 in
    let wins = winner_changes system spoiled.at object spoiled.wins in
    let by : Job = wins.0 in
    let mine : IsPendingAt system n job = who_pending system n job (ap job_in e) in
    let here : IsPendingAt system spoiled.at job =
    record { known = mine.known; released = omega (arith, (who_pending system first job had).released, spoiled.after); unfinished = unfinished_before system job spoiled.at n (omega (arith, spoiled.before)) mine.unfinished } in
    let its : IsPendingAt system spoiled.at by = who_pending system spoiled.at by wins.1 in
    -- the winner is another job: its own attempt ends with the win
    let other : job ≢ by = λ same.
    let amid : IsHeld system (suc spoiled.at) job first = held_at system job first (suc spoiled.at) n (omega (arith, spoiled.after)) (omega (arith, spoiled.before)) held in
    let ended : (so_far system job (suc spoiled.at)).made ≡ 0 = winner_ends system spoiled.at object job (wins.1 ∙ ap (λ (j : Job). Some j) (sym same)) spoiled.wins in
    absurd (omega (arith, amid.some, ended)) in
    let below : is_below (key system by) (key system job) ≡ true = goes_before system spoiled.at job by valid here its wins.1 other in (
      by,
      record {
        known = its.known;
        below = below;
        later = later_than system first job by valid had below (unfinished_before system by first spoiled.at (omega (arith, spoiled.after)) its.unfinished) its.known;
        changes = wins.2;
      },
    )

-- what a retry costs is at most the exposure of its task
exposed_retry : (system : System) (n object : ℕ) (job by : Job) → slot_at system n ≡ Decide job object None → IsJobOf system by → level system by.task < level system job.task → may_change system object by.task ≡ true
    → attempt_cost system object ≤ exposure system job.task
exposed_retry system n object job by e known lower may =
    omega (
      arith,
      value,
      largest_at (λ k. exposed_by (is_exposed system (level system job.task)) (parts_of system) (slice_get (task_of system job).items k)) place (length (task_of system job).items) inside,
    )
  where
    is : IsDecision system n job object None
    is = decision_is system n job object None e

    place : ℕ
    place = (so_far system job n).complete

    asked : slice_get (task_of system job).items place ≡ Some (Op object is.call)
    asked = stated_op system.demands job (place + 1) object is.call (slice_get (task_of system job).items place) is.asks

    inside : place < length (task_of system job).items
    inside = slice_get_within (task_of system job).items place (Op object is.call) asked

    spoils : can_spoil system (level system job.task) object (get_or (numbers (length system.tasks)) by.task 0) ≡ true
    spoils =
        ap (can_spoil system (level system job.task) object) (get_or-numbers (length system.tasks) by.task known.task)
        ∙ both_true (nat_lt (level system by.task) (level system job.task)) (may_change system object by.task) (lt-ltb (level system by.task) (level system job.task) lower) may

    exposed : is_exposed system (level system job.task) object ≡ true
    exposed = list_any_at (can_spoil system (level system job.task) object) (numbers (length system.tasks)) by.task 0 (omega (arith, known.task, length-numbers (length system.tasks))) spoils

    value : exposed_by (is_exposed system (level system job.task)) (parts_of system) (slice_get (task_of system job).items place) ≡ attempt_cost system object
    value =
        ap (exposed_by (is_exposed system (level system job.task)) (parts_of system)) asked
        ∙ ap (λ (x : Bool). where_passed x (attempt_steps (part_at (parts_of system) object))) exposed

-- levels are ranks, or relative deadlines
level_fixed : (policy : Policy) (place deadline : ℕ) → policy ≢ Edf → level_by policy place deadline ≡ place
level_fixed Rm place deadline fixed = refl
level_fixed Dm place deadline fixed = refl
level_fixed Edf place deadline fixed = absurd (fixed refl)

level_due : (policy : Policy) (place deadline : ℕ) → policy ≡ Edf → level_by policy place deadline ≡ deadline
level_due policy place deadline by_due = ap (λ (p : Policy). level_by p place deadline) by_due

-- under earliest deadlines first a job of lower key that is released later has the shorter deadline
shorter_deadline : (system : System) (by job : Job) → system.policy ≡ Edf → is_below (key system by) (key system job) ≡ true → release system job < release system by → (task_of system by).deadline < (task_of system job).deadline
shorter_deadline system by job by_due below later =
    omega (
      arith,
      later,
      sooner_due (due system by) (due system job) by.task job.task by.number job.number (subst (λ (p : Policy). is_below (key_by p system by) (key_by p system job) ≡ true) by_due below),
    )
  where
    sooner_due : (x y task other k m : ℕ) → (nat_lt x y || ((x == y) && (nat_lt task other || ((task == other) && nat_lt k m)))) ≡ true → x ≤ y
    sooner_due x y task other k m h = grind (arith, nat_tests)

charged_at : (test : ℕ → Bool) (value : ℕ → ℕ) (k : ℕ) → test k ≡ true → where_passed (test k) (value k) ≡ value k
charged_at test value k e = ap (λ (x : Bool). where_passed x (value k)) e

-- under fixed priorities the charges of a rank cover the retries of the tasks up to it
pub ranks_cover : (system : System) → IsValid system → system.policy ≢ Edf → (place n object at : ℕ) (job by : Job) → rank system job.task ≤ place → slot_at system n ≡ Decide job object None
    → IsFirstPreemption system (so_far system job n).first at job by → attempt_cost system object ≤ charge_of system place by.task
ranks_cover system valid fixed place n object at job by low e first =
    let spoiler = spoiler_of system n object job valid e in
    let known = (who_pending system n job (ap job_in e)).known in
    let lower = lower_rank system spoiler.0 job spoiler.1.known known fixed spoiler.1.below spoiler.1.later in
    let test : ℕ → Bool = λ task. nat_lt (rank system by.task) (rank system task) && nat_le (rank system task) place in
    let passes : test job.task ≡ true =
    both_true (nat_lt (rank system by.task) (rank system job.task)) (nat_le (rank system job.task) place)
    (lt-ltb (rank system by.task) (rank system job.task) (preempting_rank system at job by valid fixed first.preempts)) (le-leb (rank system job.task) place low) in
    omega (
      arith,
      exposed_retry system n object job spoiler.0 e spoiler.1.known
          (omega (arith, lower, level_fixed system.policy (rank system spoiler.0.task) (task_of system spoiler.0).deadline fixed, level_fixed system.policy (rank system job.task) (task_of system job).deadline fixed)) spoiler.1.changes,
      charged_at test (exposure system) job.task passes,
      largest_at (λ task. where_passed (test task) (exposure system task)) job.task (length system.tasks) known.task,
    )

-- under earliest deadlines first the charges cover all retries
pub deadlines_cover : (system : System) → IsValid system → system.policy ≡ Edf → (n object at : ℕ) (job by : Job) → slot_at system n ≡ Decide job object None → IsFirstPreemption system (so_far system job n).first at job by
    → attempt_cost system object ≤ charge_edf system by.task
deadlines_cover system valid by_due n object at job by e first =
    let spoiler = spoiler_of system n object job valid e in
    let known = (who_pending system n job (ap job_in e)).known in
    let shorter = shorter_deadline system spoiler.0 job by_due spoiler.1.below spoiler.1.later in
    let had = (who_pending system first.preempts.before job first.preempts.had).released in
    let its = shorter_deadline system by job by_due (preempting_below system at job by valid first.preempts) (omega (arith, had, first.preempts.follows, preempting_released system at job by valid first.preempts)) in
    let test : ℕ → Bool = λ task. nat_lt (task_at system by.task).deadline (task_at system task).deadline in
    omega (
      arith,
      exposed_retry system n object job spoiler.0 e spoiler.1.known
          (omega (arith, shorter, level_due system.policy (rank system spoiler.0.task) (task_of system spoiler.0).deadline by_due, level_due system.policy (rank system job.task) (task_of system job).deadline by_due)) spoiler.1.changes,
      charged_at test (exposure system) job.task (lt-ltb (task_at system by.task).deadline (task_at system job.task).deadline its),
      largest_at (λ task. where_passed (test task) (exposure system task)) job.task (length system.tasks) known.task,
    )
