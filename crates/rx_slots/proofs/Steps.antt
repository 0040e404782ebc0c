-- What one slot does to one job.
use Rattle.std.proofs.Common.{ℕ, zero, suc, ◌≡◌, ◌≢◌, ◌≤◌, ◌+◌, ◌-◌, ◌==◌, Bool, true, false, if◌then◌else◌, List, ◌∷◌, length, Option, Some, None, refl, sym, ◌∙◌, ap, arith, subst}
use Rattle.std.proofs.lemmas.Bool.{le-leb, false≢true}
use Rattle.std.proofs.lemmas.Bool.Decides.{nat_tests}
use Rattle.rx_seq.specs.declared.calls.Call.{Call}
use Rattle.rx_seq.specs.declared.entries.Entry.{Entry}
use Rattle.rx_seq.specs.History.{entry_after}
use Rattle.rx_set.specs.declared.items.Item.{Item}
use Rattle.rx_set.specs.declared.items.Item.TheVariants.{Work, Op}
use Rattle.rx_set.specs.declared.jobs.Job.{Job}
use Rattle.rx_set.specs.System.{System, task_of, parts_of, item_at, attempt_cost}
use Rattle.rx_slots.specs.Schedule.{Slot, Idle, Busy, Decide, Progress, job_in, same, completed, lost, ticked, ends_work, after, progress, history, won_after, decides, tick_in, slot_of, chosen, slots, slot_at}
use Rattle.rx_slots.specs.Laws.{who, so_far, finished_before, asked_by, owned, lost_in}
use Rattle.rx_slots.proofs.Lists.{some_same, none_not}
use Rattle.rx_slots.proofs.Choices.{who_is}

pub same_self : (job : Job) → same job job ≡ true
same_self job = grind (arith, nat_tests)

pub same_is : (a b : Job) → same a b ≡ true → a ≡ b
same_is a b h =
    let tasks : a.task ≡ b.task = grind (arith, nat_tests) in
    let numbers : a.number ≡ b.number = grind (arith, nat_tests) in
    let one : ℕ → Job = λ x. record { task = x; number = a.number } in
    let two : ℕ → Job = λ x. record { task = b.task; number = x } in
    ap one tasks ∙ ap two numbers

-- what holds of a job's progress, and of it with one more tick, with its attempt lost and with its item complete, holds after each slot
pub after_rule : (Q : Progress → Type 0) (system : System) (job : Job) (n : ℕ) (slot : Slot) (p : Progress) → Q p → Q (ticked n p) → Q (lost p) → Q (completed p) → Q (after system job n slot p)
after_rule Q system job n Idle p stays ticks loses completes = stays
after_rule Q system job n (Busy other) p stays ticks loses completes = by_test (same other job) (ends_work (item_at system job p.complete) p.made)
  where
    by_test : (mine ends : Bool) → Q (if mine then (if ends then completed p else ticked n p) else p)
    by_test true true = completes
    by_test true false = ticks
    by_test false ends = stays
after_rule Q system job n (Decide other object None) p stays ticks loses completes = by_test (same other job)
  where
    by_test : (mine : Bool) → Q (if mine then lost p else p)
    by_test true = loses
    by_test false = stays
after_rule Q system job n (Decide other object (Some entry)) p stays ticks loses completes = by_test (same other job)
  where
    by_test : (mine : Bool) → Q (if mine then completed p else p)
    by_test true = completes
    by_test false = stays

-- complete items stay so
complete_more : (system : System) (job : Job) (n : ℕ) (slot : Slot) (p : Progress) → p.complete ≤ (after system job n slot p).complete
complete_more system job n slot p = after_rule (λ (q : Progress). p.complete ≤ q.complete) system job n slot p (omega arith) (omega arith) (omega arith) (omega arith)

complete_later : (system : System) (job : Job) (n more : ℕ) → (so_far system job n).complete ≤ (so_far system job (more + n)).complete
complete_later system job n zero =
    let same_time : 0 + n ≡ n = omega arith in
    let same_count : (so_far system job (0 + n)).complete ≡ (so_far system job n).complete = ap (λ (m : ℕ). (so_far system job m).complete) same_time in
    omega arith
complete_later system job n (suc more) =
    let same_time : suc more + n ≡ suc (more + n) = omega arith in
    let same_count : (so_far system job (suc more + n)).complete ≡ (so_far system job (suc (more + n))).complete = ap (λ (m : ℕ). (so_far system job m).complete) same_time in
    omega (arith, complete_later system job n more, complete_more system job (length (slots system (more + n))) (slot_at system (more + n)) (so_far system job (more + n)))

complete_from : (system : System) (job : Job) (m n : ℕ) → m ≤ n → (so_far system job m).complete ≤ (so_far system job n).complete
complete_from system job m n h =
    let same_time : n - m + m ≡ n = omega arith in
    let same_count : (so_far system job (n - m + m)).complete ≡ (so_far system job n).complete = ap (λ (k : ℕ). (so_far system job k).complete) same_time in
    omega (arith, complete_later system job m (n - m))

-- a finished job stays so
pub finish_stays : (system : System) (job : Job) (m n : ℕ) → m ≤ n → finished_before system job m ≡ true → finished_before system job n ≡ true
finish_stays system job m n h done =
    let all : length (task_of system job).items ≤ (so_far system job m).complete = grind (arith, nat_tests) in
    le-leb (length (task_of system job).items) (so_far system job n).complete (omega (arith, complete_from system job m n h))

pub unfinished_before : (system : System) (job : Job) (m n : ℕ) → m ≤ n → finished_before system job n ≡ false → finished_before system job m ≡ false
unfinished_before system job m n h rest = by_test (finished_before system job m) refl
  where
    by_test : (b : Bool) → finished_before system job m ≡ b → finished_before system job m ≡ false
    by_test true e = absurd (false≢true (sym rest ∙ finish_stays system job m n h e))
    by_test false e = e

-- a slot of another job, or of none, leaves the job as it is
pub record IsOther (system : System) (past : List Slot) (job : Job) (slot : Slot) : Type 0 where
  pub stays : progress system job (slot ∷ past) ≡ progress system job past
  pub none : owned job (job_in slot) ≡ 0
  pub kept : lost_in system job slot ≡ 0

abbrev pub made_in : System → List Slot → Job → ℕ
made_in system past job = (progress system job past).made

-- the item that the job has in hand
abbrev pub item_in : System → List Slot → Job → Option Item
item_in system past job = item_at system job (progress system job past).complete

-- what a slot of the job is: one that completes no item and decides nothing, the last of a work item, or the end of an attempt that is lost or wins
pub data IsOwn (system : System) (past : List Slot) (job : Job) (slot : Slot) : Type 0 where
  Goes : slot ≡ Busy job → made_in system past job + 1 ≢ asked_by system (item_in system past job)
      → progress system job (slot ∷ past) ≡ ticked (length past) (progress system job past) → IsOwn system past job slot
  Works : slot ≡ Busy job → made_in system past job + 1 ≡ asked_by system (item_in system past job)
      → progress system job (slot ∷ past) ≡ completed (progress system job past) → IsOwn system past job slot
  Loses : (object : ℕ) (call : Call) → slot ≡ Decide job object None → item_in system past job ≡ Some (Op object call) → made_in system past job + 1 ≡ attempt_cost system object
      → won_after object (progress system job past).first past ≡ true → progress system job (slot ∷ past) ≡ lost (progress system job past) → IsOwn system past job slot
  Wins : (object : ℕ) (call : Call) → slot ≡ Decide job object (Some (entry_after (parts_of system) (history past) job.task object call)) → item_in system past job ≡ Some (Op object call)
      → made_in system past job + 1 ≡ attempt_cost system object
      → won_after object (progress system job past).first past ≡ false → progress system job (slot ∷ past) ≡ completed (progress system job past) → IsOwn system past job slot

module _ (system : System) (past : List Slot) (job : Job) where
  pub busy_after : (slot : Slot) (ends : Bool) → slot ≡ Busy job → ends_work (item_in system past job) (made_in system past job) ≡ ends
      → progress system job (slot ∷ past) ≡ (if ends then completed (progress system job past) else ticked (length past) (progress system job past))
  busy_after slot ends e f =
      ap (λ (s : Slot). progress system job (s ∷ past)) e
      ∙ ap (λ (b : Bool). if b then (if ends_work (item_in system past job) (made_in system past job) then completed (progress system job past) else ticked (length past) (progress system job past)) else progress system job past) (same_self job)
      ∙ ap (λ (b : Bool). if b then completed (progress system job past) else ticked (length past) (progress system job past)) f

  pub lost_after : (slot : Slot) (object : ℕ) → slot ≡ Decide job object None → progress system job (slot ∷ past) ≡ lost (progress system job past)
  lost_after slot object e =
      ap (λ (s : Slot). progress system job (s ∷ past)) e ∙ ap (λ (b : Bool). if b then lost (progress system job past) else progress system job past) (same_self job)

  won_by : (slot : Slot) (object : ℕ) (entry : Entry) → slot ≡ Decide job object (Some entry) → progress system job (slot ∷ past) ≡ completed (progress system job past)
  won_by slot object entry e =
      ap (λ (s : Slot). progress system job (s ∷ past)) e ∙ ap (λ (b : Bool). if b then completed (progress system job past) else progress system job past) (same_self job)

  by_item : (slot : Slot) (item : Option Item) → item_in system past job ≡ item → slot ≡ tick_in system past job (progress system job past) (decides system item (made_in system past job)) → IsOwn system past job slot
  by_item slot None f e =
      let asked : asked_by system (item_in system past job) ≡ 0 = ap (asked_by system) f in
      Goes e (λ g. absurd (omega arith)) (busy_after slot false e (ap (λ (o : Option Item). ends_work o (made_in system past job)) f))
  by_item slot (Some (Work ticks)) f e = by_test (made_in system past job + 1 == ticks) refl
    where
      asked : asked_by system (item_in system past job) ≡ ticks
      asked = ap (asked_by system) f

      by_test : (b : Bool) → (made_in system past job + 1 == ticks) ≡ b → IsOwn system past job slot
      by_test true g =
          let all : made_in system past job + 1 ≡ ticks = grind (arith, nat_tests) in
          Works e (all ∙ sym asked) (busy_after slot true e (ap (λ (o : Option Item). ends_work o (made_in system past job)) f ∙ g))
      by_test false g =
          let some : made_in system past job + 1 ≢ ticks = grind (arith, nat_tests) in
          Goes e (λ h. some (h ∙ asked)) (busy_after slot false e (ap (λ (o : Option Item). ends_work o (made_in system past job)) f ∙ g))
  by_item slot (Some (Op object call)) f e = by_test (made_in system past job + 1 == attempt_cost system object) refl
    where
      asked : asked_by system (item_in system past job) ≡ attempt_cost system object
      asked = ap (asked_by system) f

      by_outcome : made_in system past job + 1 ≡ attempt_cost system object → (won : Bool) → won_after object (progress system job past).first past ≡ won
          → slot ≡ Decide job object (if won then None else Some (entry_after (parts_of system) (history past) job.task object call)) → IsOwn system past job slot
      by_outcome all true g d = Loses object call d f all g (lost_after slot object d)
      by_outcome all false g d = Wins object call d f all g (won_by slot object (entry_after (parts_of system) (history past) job.task object call) d)

      ends : (b : Bool) → (made_in system past job + 1 == attempt_cost system object) ≡ b
          → slot ≡ tick_in system past job (progress system job past) (if b then Some (record { object = object; call = call }) else None)
      ends b g = e ∙ ap (λ (t : Bool). tick_in system past job (progress system job past) (if t then Some (record { object = object; call = call }) else None)) g

      by_test : (b : Bool) → (made_in system past job + 1 == attempt_cost system object) ≡ b → IsOwn system past job slot
      by_test true g =
          let all : made_in system past job + 1 ≡ attempt_cost system object = grind (arith, nat_tests) in
          by_outcome all (won_after object (progress system job past).first past) refl (ends true g)
      by_test false g =
          let some : made_in system past job + 1 ≢ attempt_cost system object = grind (arith, nat_tests) in
          Goes (ends false g) (λ h. some (h ∙ asked)) (busy_after slot false (ends false g) (ap (λ (o : Option Item). ends_work o (made_in system past job)) f))

  pub own_slot : IsOwn system past job (slot_of system past (Some job))
  own_slot = by_item (slot_of system past (Some job)) (item_in system past job) refl refl

pub other_slot : (system : System) (past : List Slot) (job : Job) (slot : Slot) → ((other : Job) → job_in slot ≡ Some other → same other job ≡ false) → IsOther system past job slot
other_slot system past job Idle h = record { stays = refl; none = refl; kept = refl }
other_slot system past job (Busy other) h =
    let not_mine : same other job ≡ false = h other refl in record {
      stays = ap (λ (b : Bool). if b then (if ends_work (item_in system past job) (made_in system past job) then completed (progress system job past) else ticked (length past) (progress system job past)) else progress system job past) not_mine;
      none = ap (λ (b : Bool). if b then 1 else 0) not_mine;
      kept = refl;
    }
other_slot system past job (Decide other object None) h =
    let not_mine : same other job ≡ false = h other refl in record {
      stays = ap (λ (b : Bool). if b then lost (progress system job past) else progress system job past) not_mine;
      none = ap (λ (b : Bool). if b then 1 else 0) not_mine;
      kept = ap (λ (b : Bool). if b then attempt_cost system object else 0) not_mine;
    }
other_slot system past job (Decide other object (Some entry)) h =
    let not_mine : same other job ≡ false = h other refl in record {
      stays = ap (λ (b : Bool). if b then completed (progress system job past) else progress system job past) not_mine;
      none = ap (λ (b : Bool). if b then 1 else 0) not_mine;
      kept = refl;
    }

-- a slot is the job's, or another's or idle
pub data IsEither (system : System) (n : ℕ) (job : Job) : Type 0 where
  Own : who system n ≡ Some job → IsOwn system (slots system n) job (slot_at system n) → IsEither system n job
  Other : who system n ≢ Some job → IsOther system (slots system n) job (slot_at system n) → IsEither system n job

pub own_at : (system : System) (n : ℕ) (job : Job) → who system n ≡ Some job → IsOwn system (slots system n) job (slot_at system n)
own_at system n job h =
    let found : chosen system (slots system n) ≡ Some job = sym (who_is system n) ∙ h in
    subst (λ (o : Option Job). IsOwn system (slots system n) job (slot_of system (slots system n) o)) (sym found) (own_slot system (slots system n) job)

pub either : (system : System) (n : ℕ) (job : Job) → IsEither system n job
either system n job = by_owner (who system n) refl
  where
    another : (slot : Slot) (other x : Job) → job_in slot ≡ Some other → same other job ≡ false → job_in slot ≡ Some x → same x job ≡ false
    another slot other x e differs f = ap (λ (j : Job). same j job) (some_same x other (sym f ∙ e)) ∙ differs

    by_same : (other : Job) → who system n ≡ Some other → (b : Bool) → same other job ≡ b → IsEither system n job
    by_same other e true s = let mine : who system n ≡ Some job = e ∙ ap Some (same_is other job s) in Own mine (own_at system n job mine)
    by_same other e false s =
        Other (λ f. false≢true (sym s ∙ ap (λ (j : Job). same j job) (some_same other job (sym e ∙ f)) ∙ same_self job))
        (other_slot system (slots system n) job (slot_at system n) (λ x f. another (slot_at system n) other x e s f))

    by_owner : (o : Option Job) → who system n ≡ o → IsEither system n job
    by_owner None e =
        Other (λ f. none_not job (sym e ∙ f)) (other_slot system (slots system n) job (slot_at system n) (λ x f. absurd (none_not x (sym e ∙ f))))
    by_owner (Some other) e = by_same other e (same other job) refl

-- the same of the slots of a schedule, with what a slot of the job is
pub slot_rule : (Q : Progress → Type 0) (system : System) (n : ℕ) (job : Job) → (who system n ≢ Some job → owned job (who system n) ≡ 0 → Q (so_far system job n))
    → (who system n ≡ Some job → slot_at system n ≡ Busy job → made_in system (slots system n) job + 1 ≢ asked_by system (item_in system (slots system n) job) → Q (ticked (length (slots system n)) (so_far system job n)))
    → (who system n ≡ Some job → Q (lost (so_far system job n))) → (who system n ≡ Some job → Q (completed (so_far system job n))) → Q (so_far system job (suc n))
slot_rule Q system n job stays ticks loses completes = by_owner (either system n job)
  where
    by_own : who system n ≡ Some job → IsOwn system (slots system n) job (slot_at system n) → Q (so_far system job (suc n))
    by_own mine (Goes is some next) = subst Q (sym next) (ticks mine is some)
    by_own mine (Works is all next) = subst Q (sym next) (completes mine)
    by_own mine (Loses object call is item all spoiled next) = subst Q (sym next) (loses mine)
    by_own mine (Wins object call is item all calm next) = subst Q (sym next) (completes mine)

    by_owner : IsEither system n job → Q (so_far system job (suc n))
    by_owner (Own mine own) = by_own mine own
    by_owner (Other not_mine h) = subst Q (sym h.stays) (stays not_mine h.none)
