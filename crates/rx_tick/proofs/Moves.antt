-- What a slot does to what is kept.
use Rattle.std.proofs.Common.{ℕ, zero, suc, ◌≡◌, ◌≢◌, ◌≤◌, ◌<◌, ◌+◌, ◌^◌, ◌==◌, ◌&&◌, nat_le, nat_lt, not, Bool, true, false, if◌then◌else◌, List, [], ◌∷◌, ◌++◌, length, slice_set, Option, Some, None, refl, sym, ◌∙◌, ap, arith, subst, add-one, append_assoc}
use Rattle.std.specs.Option.{ForSome}
use Rattle.std.proofs.Math.Decide.{dec_le}
use Rattle.std.proofs.lemmas.Bool.{lt-leb, le-leb}
use Rattle.std.proofs.lemmas.Bool.Decides.{nat_tests}
use Rattle.std.proofs.lemmas.List.{length-set}
use Rattle.rx_set.specs.declared.jobs.Job.{Job}
use Rattle.rx_set.specs.System.{System, task_at, task_of, item_at, due}
use Rattle.rx_set.specs.Valid.{IsJob}
use Rattle.rx_ledger.specs.declared.events.Event.{Event}
use Rattle.rx_ledger.specs.declared.events.Event.TheVariants.{Preempt}
use Rattle.rx_set.specs.Operations.{Asked}
use Rattle.rx_tick.specs.declared.states.State.{State}
use Rattle.rx_slots.specs.Schedule.{Slot, Idle, Progress, after, sooner, job_in, same, progress, is_finished, decides, tick_in, slot_of, next_slot, slot_at, chosen, slots}
use Rattle.rx_slots.specs.Events.{last_job, preempted, decision, finish, finished_in, events_of, misses, releases}
use Rattle.rx_tick.specs.States.{job, state_at, progress_of, with_progress, after_slot, IsState, AreStates, IsBeforeDue, AreBeforeDue, AreBeforeRelease, IsOffered, offer, best_of}
use Rattle.rx_slots.specs.Laws.{who}
use Rattle.rx_slots.proofs.Lists.{some_same, none_not}
use Rattle.rx_slots.proofs.Choices.{who_is}
use Rattle.rx_slots.proofs.Steps.{after_rule, other_slot}
use Rattle.rx_slots.proofs.Prefixes.{slots_count}
use Rattle.rx_tick.proofs.Written.{at_written}
use Rattle.rx_tick.proofs.Told.{released_bound}
use Rattle.rx_tick.proofs.Chosen.{chosen_is, best_offered}

differ : (task k m : ℕ) → k ≢ m → same (job task k) (job task m) ≡ false
differ task k m h = grind (arith, nat_tests)

differ_task : (mine : Job) (task m : ℕ) → mine.task ≢ task → same mine (job task m) ≡ false
differ_task mine task m h = grind (arith, nat_tests)

-- a slot of one job leaves the others' progress
other_job : (system : System) (past : List Slot) (slot : Slot) (mine other : Job) → job_in slot ≡ Some mine → same mine other ≡ false → progress system other (slot ∷ past) ≡ progress system other past
other_job system past slot mine other owner apart =
    (other_slot system past other slot (λ x e. ap (λ (j : Job). same j other) (some_same x mine (sym e ∙ owner)) ∙ apart)).stays

-- the states of other tasks stay
state_stays : (system : System) (past : List Slot) (time task : ℕ) (slot : Slot) (mine : Job) (s : State) → job_in slot ≡ Some mine → IsState system past time task s → mine.task ≢ task → IsState system (slot ∷ past) time task s
state_stays system past time task slot mine s owner kept h =
    let stays : (m : ℕ) → progress system (job task m) (slot ∷ past) ≡ progress system (job task m) past
    = λ m. other_job system past slot mine (job task m) owner (differ_task mine task m h) in record {
      finished = λ m low high. ap (λ (p : Progress). nat_le (length (task_at system task).items) p.complete) (stays m) ∙ kept.finished m low high;
      started = stays (s.finished + 1) ∙ kept.started;
      unfinished = kept.unfinished;
      later = λ m above. stays m ∙ kept.later m above;
      next_release = kept.next_release;
      next = kept.next;
      last = kept.last;
      order = kept.order;
    }

module _ (system : System) (past : List Slot) (time task : ℕ) (slot : Slot) (s : State) (owner : job_in slot ≡ Some (job task (s.finished + 1))) (kept : IsState system past time task s) where
  private_stays : (m : ℕ) → s.finished + 1 ≢ m → progress system (job task m) (slot ∷ past) ≡ progress system (job task m) past
  private_stays m h = other_job system past slot (job task (s.finished + 1)) (job task m) owner (differ task (s.finished + 1) m h)

  -- the state of a task whose started job has the slot, and is not finished by it
  goes_on : (p : Progress) → progress system (job task (s.finished + 1)) (slot ∷ past) ≡ p → p.complete < length (task_at system task).items
      → IsState system (slot ∷ past) time task (record s { complete = p.complete; made = p.made; first = p.first })
  goes_on p e h = record {
    finished = λ m low high. ap (λ (q : Progress). nat_le (length (task_at system task).items) q.complete) (private_stays m (λ f. absurd (omega arith))) ∙ kept.finished m low high;
    started = e;
    unfinished = h;
    later = λ m above. private_stays m (λ f. absurd (omega arith)) ∙ kept.later m above;
    next_release = kept.next_release;
    next = kept.next;
    last = kept.last;
    order = kept.order;
  }

  -- and of one whose started job is finished by it
  ends_job : (p : Progress) → progress system (job task (s.finished + 1)) (slot ∷ past) ≡ p → p.complete ≡ length (task_at system task).items → s.finished < s.released
      → IsState system (slot ∷ past) time task (record s { finished = s.finished + 1; complete = 0; made = 0; first = 0 })
  ends_job p e h some = record {
    finished = λ m low high. elim (dec_le m s.finished) [
      | yes before ↦ ap (λ (q : Progress). nat_le (length (task_at system task).items) q.complete) (private_stays m (λ f. absurd (omega arith))) ∙ kept.finished m low before
      | no this ↦
          let here : m ≡ s.finished + 1 = omega arith in
          ap (λ (n : ℕ). is_finished system (slot ∷ past) (job task n)) here
          ∙ ap (λ (q : Progress). nat_le (length (task_at system task).items) q.complete) e
          ∙ le-leb (length (task_at system task).items) p.complete (omega arith)
    ];
    started = private_stays (s.finished + 1 + 1) (λ f. absurd (omega arith)) ∙ kept.later (s.finished + 1 + 1) (omega arith);
    unfinished = omega (arith, kept.unfinished);
    later = λ m above. private_stays m (λ f. absurd (omega arith)) ∙ kept.later m (omega arith);
    next_release = kept.next_release;
    next = kept.next;
    last = kept.last;
    order = omega arith;
  }

  -- both at once
  moved : (p : Progress) → progress system (job task (s.finished + 1)) (slot ∷ past) ≡ p → p.complete ≤ length (task_at system task).items → s.finished < s.released
      → IsState system (slot ∷ past) time task (with_progress (length (task_at system task).items) s p)
  moved p e h some = by_test (p.complete == length (task_at system task).items) refl
    where
      by_test : (b : Bool) → (p.complete == length (task_at system task).items) ≡ b
          → IsState system (slot ∷ past) time task
          (if b then record s { finished = s.finished + 1; complete = 0; made = 0; first = 0 } else record s { complete = p.complete; made = p.made; first = p.first })
      by_test true f = ends_job p e (grind (arith, nat_tests)) some
      by_test false f = goes_on p e (let apart : p.complete ≢ length (task_at system task).items = grind (arith, nat_tests) in omega arith)

-- a job has had at most as many ticks as there were slots
made_after : (system : System) (mine : Job) (n : ℕ) (slot : Slot) (p : Progress) → (after system mine n slot p).made ≤ p.made + 1
made_after system mine n slot p = after_rule (λ (q : Progress). q.made ≤ p.made + 1) system mine n slot p (omega arith) (omega arith) (omega arith) (omega arith)

pub made_bound : (system : System) (mine : Job) (past : List Slot) → (progress system mine past).made ≤ length past
made_bound system mine [] = omega arith
made_bound system mine (slot ∷ past) = omega (arith, made_after system mine (length past) slot (progress system mine past), made_bound system mine past)

-- a write of a state that offers the same leaves the choice
offer_same : (system : System) (best : Option Job) (task : ℕ) (s t : State) → nat_lt t.finished t.released ≡ nat_lt s.finished s.released → t.finished ≡ s.finished → offer system best task t ≡ offer system best task s
offer_same system best task s t tests finished =
    ap (λ (b : Bool). if b then sooner system best (job task (t.finished + 1)) else best) tests
    ∙ ap (λ (n : ℕ). if nat_lt s.finished s.released then sooner system best (job task (n + 1)) else best) finished

pub best_set : (system : System) (states : List State) (task : ℕ) (new : State) → task < length states
    → nat_lt new.finished new.released ≡ nat_lt (state_at states task).finished (state_at states task).released → new.finished ≡ (state_at states task).finished
    → (tasks : ℕ) → best_of system tasks (slice_set states task new) ≡ best_of system tasks states
best_set system states task new known tests finished zero = refl
best_set system states task new known tests finished (suc tasks) =
    ap (λ (best : Option Job). offer system best tasks (state_at (slice_set states task new) tasks)) (best_set system states task new known tests finished tasks)
    ∙ at_written (λ t s. offer system (best_of system tasks states) t s ≡ offer system (best_of system tasks states) t (state_at states t)) states task new known
    (offer_same system (best_of system tasks states) task (state_at states task) new tests finished) tasks (λ apart. refl)

-- it leaves when jobs are due, if no more of them are unfinished
pub due_set : (system : System) (time watch : ℕ) (states : List State) (task : ℕ) (new : State) → task < length states → new.released ≡ (state_at states task).released
    → (state_at states task).finished ≤ new.finished → AreBeforeDue system time watch states → AreBeforeDue system time watch (slice_set states task new)
due_set system time watch states task new known released finished watched = record {
  each = λ other. at_written (λ t s. t < length system.tasks → IsBeforeDue system time watch t s) states task new known same_due other (λ apart. watched.each other);
}
  where
    same_due : task < length system.tasks → IsBeforeDue system time watch task new
    same_due inside = λ some later. subst (λ (n : ℕ). watch ≤ due system (job task n)) (sym released)
        (watched.each task inside (omega (arith, released, finished, some)) (subst (λ (n : ℕ). time ≤ due system (job task n)) released later))

-- and when jobs are released, if that stays
pub release_set : (system : System) (watch : ℕ) (states : List State) (task : ℕ) (new : State) → task < length states → new.next ≡ (state_at states task).next
    → AreBeforeRelease system watch states → AreBeforeRelease system watch (slice_set states task new)
release_set system watch states task new known next watched = record {
  each = λ other. at_written (λ t s. t < length system.tasks → watch ≤ s.next) states task new known (λ inside. omega (arith, next, watched.each task inside)) other (λ apart. watched.each other);
}

-- what a tick does to the counts
released_after : (items : ℕ) (s : State) (p : Progress) → (with_progress items s p).released ≡ s.released
released_after items s p = by_test (p.complete == items)
  where
    by_test : (b : Bool) → (if b then record s { finished = s.finished + 1; complete = 0; made = 0; first = 0 } else record s { complete = p.complete; made = p.made; first = p.first }).released ≡ s.released
    by_test true = refl
    by_test false = refl

next_after : (items : ℕ) (s : State) (p : Progress) → (with_progress items s p).next ≡ s.next
next_after items s p = by_test (p.complete == items)
  where
    by_test : (b : Bool) → (if b then record s { finished = s.finished + 1; complete = 0; made = 0; first = 0 } else record s { complete = p.complete; made = p.made; first = p.first }).next ≡ s.next
    by_test true = refl
    by_test false = refl

finished_after : (items : ℕ) (s : State) (p : Progress) → (with_progress items s p).finished ≡ (if p.complete == items then s.finished + 1 else s.finished)
finished_after items s p = by_test (p.complete == items)
  where
    by_test : (b : Bool) → (if b then record s { finished = s.finished + 1; complete = 0; made = 0; first = 0 } else record s { complete = p.complete; made = p.made; first = p.first }).finished
        ≡ (if b then s.finished + 1 else s.finished)
    by_test true = refl
    by_test false = refl

-- a slot completes one item at most
complete_after : (system : System) (mine : Job) (n : ℕ) (slot : Slot) (p : Progress) → (after system mine n slot p).complete ≤ p.complete + 1
complete_after system mine n slot p = after_rule (λ (q : Progress). q.complete ≤ p.complete + 1) system mine n slot p (omega arith) (omega arith) (omega arith) (omega arith)

pub idle_slot : (system : System) (past : List Slot) → chosen system past ≡ None → next_slot system past ≡ Idle
idle_slot system past h = ap (slot_of system past) h

-- an idle slot leaves what is kept
pub idle_states : (system : System) (past : List Slot) (time : ℕ) (states : List State) → AreStates system past time states → AreStates system (Idle ∷ past) time states
idle_states system past time states kept = record {
  valid = kept.valid;
  count = kept.count;
  each = λ task known. let s = kept.each task known in record {
    finished = s.finished;
    started = s.started;
    unfinished = s.unfinished;
    later = s.later;
    next_release = s.next_release;
    next = s.next;
    last = s.last;
    order = s.order;
  };
}

-- the job that has the slot, its task's state, and what they become, where the state has this root after the slot
module _ (system : System) (now : ℕ) (states : List State) (kept : AreStates system (slots system now) (now + 1) states) (mine : Job) (best : best_of system (length system.tasks) states ≡ Some mine) where
  pub offered_here : IsOffered states mine
  offered_here = best_offered system states (length system.tasks) (omega (arith, kept.count)) mine best

  pub known_here : mine.task < length system.tasks
  known_here = omega (arith, offered_here.task, kept.count)

  pub state_here : IsState system (slots system now) (now + 1) mine.task (state_at states mine.task)
  state_here = kept.each mine.task known_here

  mine_is : mine ≡ job mine.task ((state_at states mine.task).finished + 1)
  mine_is = ap (job mine.task) offered_here.number

  pub started_here : progress system mine (slots system now) ≡ progress_of (state_at states mine.task)
  started_here = ap (λ (j : Job). progress system j (slots system now)) mine_is ∙ state_here.started

  pub owner_here : who system now ≡ Some mine
  owner_here = who_is system now ∙ chosen_is system now states kept ∙ best

  pub slots_here : slots system (now + 1) ≡ slot_at system now ∷ slots system now
  slots_here = rw (add-one now) refl

  progress_here : Progress
  progress_here = after system mine now (slot_at system now) (progress_of (state_at states mine.task))

  items_here : ℕ
  items_here = length (task_of system mine).items

  progress_next : progress system mine (slot_at system now ∷ slots system now) ≡ progress_here
  unfolding progress_here
  progress_next =
      ap (λ (n : ℕ). after system mine n (slot_at system now) (progress system mine (slots system now))) (slots_count system now)
      ∙ ap (after system mine now (slot_at system now)) started_here

  -- the job that has the slot is finished by it where the count of finished jobs grows
  finished_is_here : is_finished system (slot_at system now ∷ slots system now) mine ≡ nat_le items_here progress_here.complete
  unfolding items_here
  finished_is_here = ap (λ (p : Progress). nat_le (length (task_of system mine).items) p.complete) progress_next

  few_here : progress_here.complete ≤ items_here
  unfolding progress_here items_here
  few_here = omega (arith, complete_after system mine now (slot_at system now) (progress_of (state_at states mine.task)), state_here.unfinished)

  after_here : State
  after_here = after_slot system now mine (slot_at system now) (state_at states mine.task)

  counts_here : after_here.finished ≡ (if progress_here.complete == items_here then (state_at states mine.task).finished + 1 else (state_at states mine.task).finished)
  unfolding progress_here items_here after_here
  counts_here = finished_after (length (task_of system mine).items) (state_at states mine.task)
      (after system mine now (slot_at system now) (progress_of (state_at states mine.task)))

  pub not_done : (after_slot system now mine (slot_at system now) (state_at states mine.task)).finished ≡ (state_at states mine.task).finished → is_finished system (slot_at system now ∷ slots system now) mine ≡ false
  unfolding after_here
  not_done e = finished_is_here ∙ by_count (progress_here.complete == items_here) refl
    where
      by_count : (b : Bool) → (progress_here.complete == items_here) ≡ b → nat_le items_here progress_here.complete ≡ false
      by_count true f = absurd (omega (arith, counts_here ∙ ap (λ (t : Bool). if t then (state_at states mine.task).finished + 1 else (state_at states mine.task).finished) f, e))
      by_count false f = let apart : progress_here.complete ≢ items_here = grind (arith, nat_tests) in lt-leb items_here progress_here.complete (omega (arith, few_here))

  pub done : (after_slot system now mine (slot_at system now) (state_at states mine.task)).finished ≢ (state_at states mine.task).finished → is_finished system (slot_at system now ∷ slots system now) mine ≡ true
  unfolding after_here
  done e = finished_is_here ∙ by_count (progress_here.complete == items_here) refl
    where
      by_count : (b : Bool) → (progress_here.complete == items_here) ≡ b → nat_le items_here progress_here.complete ≡ true
      by_count true f = let same_count : progress_here.complete ≡ items_here = grind (arith, nat_tests) in le-leb items_here progress_here.complete (omega arith)
      by_count false f = absurd (e (counts_here ∙ ap (λ (t : Bool). if t then (state_at states mine.task).finished + 1 else (state_at states mine.task).finished) f))

  -- what is kept after the slot
  state_next : IsState system (slot_at system now ∷ slots system now) (now + 1) mine.task after_here
  unfolding after_here progress_here items_here
  state_next =
      let e : progress system (job mine.task ((state_at states mine.task).finished + 1)) (slot_at system now ∷ slots system now) ≡ progress_here
      = ap (λ (j : Job). progress system j (slot_at system now ∷ slots system now)) (sym mine_is) ∙ progress_next in
      moved system (slots system now) (now + 1) mine.task (slot_at system now) (state_at states mine.task) (owner_here ∙ ap (λ (j : Job). Some j) mine_is)
      state_here progress_here e few_here offered_here.released

  states_next : AreStates system (slot_at system now ∷ slots system now) (now + 1) (slice_set states mine.task after_here)
  states_next = record {
    valid = kept.valid;
    count = length-set states mine.task after_here ∙ kept.count;
    each = λ task. at_written (λ t s. t < length system.tasks → IsState system (slot_at system now ∷ slots system now) (now + 1) t s) states mine.task after_here offered_here.task (λ known. state_next) task
        (λ apart known. state_stays system (slots system now) (now + 1) task (slot_at system now) mine (state_at states task) owner_here (kept.each task known) (λ e. apart (sym e)));
  }

  pub states_after : AreStates system (slots system (now + 1)) (now + 1) (slice_set states mine.task (after_slot system now mine (slot_at system now) (state_at states mine.task)))
  unfolding after_here
  states_after = subst (λ (past : List Slot). AreStates system past (now + 1) (slice_set states mine.task after_here)) (sym slots_here) states_next

  same_released : (after_slot system now mine (slot_at system now) (state_at states mine.task)).released ≡ (state_at states mine.task).released
  same_released = released_after (length (task_of system mine).items) (state_at states mine.task)
      (after system mine now (slot_at system now) (progress_of (state_at states mine.task)))

  same_next : (after_slot system now mine (slot_at system now) (state_at states mine.task)).next ≡ (state_at states mine.task).next
  same_next = next_after (length (task_of system mine).items) (state_at states mine.task)
      (after system mine now (slot_at system now) (progress_of (state_at states mine.task)))

  more_finished : (state_at states mine.task).finished ≤ (after_slot system now mine (slot_at system now) (state_at states mine.task)).finished
  unfolding after_here
  more_finished = by_count (progress_here.complete == items_here) refl
    where
      by_count : (b : Bool) → (progress_here.complete == items_here) ≡ b → (state_at states mine.task).finished ≤ (after_slot system now mine (slot_at system now) (state_at states mine.task)).finished
      by_count true f = omega (arith, counts_here ∙ ap (λ (t : Bool). if t then (state_at states mine.task).finished + 1 else (state_at states mine.task).finished) f)
      by_count false f = omega (arith, counts_here ∙ ap (λ (t : Bool). if t then (state_at states mine.task).finished + 1 else (state_at states mine.task).finished) f)

  pub best_after : (after_slot system now mine (slot_at system now) (state_at states mine.task)).finished ≡ (state_at states mine.task).finished
      → best_of system (length system.tasks) (slice_set states mine.task (after_slot system now mine (slot_at system now) (state_at states mine.task))) ≡ best_of system (length system.tasks) states
  best_after e = best_set system states mine.task (after_slot system now mine (slot_at system now) (state_at states mine.task)) offered_here.task
      (ap (λ (n : ℕ). nat_lt n (after_slot system now mine (slot_at system now) (state_at states mine.task)).released) e ∙ ap (nat_lt (state_at states mine.task).finished) same_released)
      e (length system.tasks)

  pub due_after : (watch : ℕ) → AreBeforeDue system (now + 1) watch states → AreBeforeDue system (now + 1) watch (slice_set states mine.task (after_slot system now mine (slot_at system now) (state_at states mine.task)))
  due_after watch watched = due_set system (now + 1) watch states mine.task (after_slot system now mine (slot_at system now) (state_at states mine.task)) offered_here.task same_released more_finished watched

  pub release_after : (watch : ℕ) → AreBeforeRelease system watch states → AreBeforeRelease system watch (slice_set states mine.task (after_slot system now mine (slot_at system now) (state_at states mine.task)))
  release_after watch watched = release_set system watch states mine.task (after_slot system now mine (slot_at system now) (state_at states mine.task)) offered_here.task same_next watched

  pub job_here : now < 2 ^ 40 → IsJob system mine
  job_here early = record {
    task = known_here;
    number = (omega (arith, offered_here.number), omega (arith, offered_here.number, offered_here.released, released_bound system (slots system now) (now + 1) mine.task (state_at states mine.task) state_here kept.valid known_here));
  }

  -- what is told of the slot
  last_here : last_job (slots system (now + 1)) ≡ Some mine
  last_here = ap last_job slots_here ∙ owner_here

  pub last_after : (last : Option Job) → last ≡ Some mine → last ≡ last_job (slots system (now + 1))
  last_after last e = e ∙ sym last_here

  pub finish_here : finish system (slots system now) (slot_at system now) ≡ finished_in system (slots system now) (slot_at system now) (Some mine)
  finish_here = ap (finished_in system (slots system now) (slot_at system now)) owner_here

-- a known job
pub known_some : (system : System) (o : Option Job) (mine : Job) → o ≡ Some mine → IsJob system mine → ForSome o (IsJob system)
known_some system o mine e known = λ x f. let same_job : mine ≡ x = cc in subst (IsJob system) same_job known

pub known_none : (system : System) (o : Option Job) → o ≡ None → ForSome o (IsJob system)
known_none system o e = λ x f. absurd (none_not x (sym e ∙ f))

-- an idle slot
module _ (system : System) (now : ℕ) (states : List State) (kept : AreStates system (slots system now) (now + 1) states) (best : best_of system (length system.tasks) states ≡ None) where
  pub slot_idle : next_slot system (slots system now) ≡ Idle
  slot_idle = idle_slot system (slots system now) (chosen_is system now states kept ∙ best)

  slots_idle : slots system (now + 1) ≡ Idle ∷ slots system now
  slots_idle = rw (add-one now) (ap (λ (slot : Slot). slot ∷ slots system now) slot_idle)

  pub states_idle : AreStates system (slots system (now + 1)) (now + 1) states
  states_idle = subst (λ (past : List Slot). AreStates system past (now + 1) states) (sym slots_idle) (idle_states system (slots system now) (now + 1) states kept)

  pub last_idle : (last : Option Job) → last ≡ None → last ≡ last_job (slots system (now + 1))
  last_idle last e = e ∙ sym (ap last_job slots_idle)

  pub told_idle : decision system (slots system now) (slot_at system now) ++ finish system (slots system now) (slot_at system now) ≡ []
  told_idle =
      ap (λ (slot : Slot). decision system (slots system now) slot ++ finish system (slots system now) (slot_at system now)) slot_idle
      ∙ ap (λ (o : Option Job). finished_in system (slots system now) (slot_at system now) o) (ap job_in slot_idle)

-- the preemption that is told
pub preempted_is : (system : System) (past : List Slot) (now : ℕ) (last best : Option Job) (mine by : Job) → length past ≡ now → last ≡ Some mine → best ≡ Some by
    → (not (same mine by) && not (is_finished system past mine)) ≡ true → preempted system past last best ≡ Preempt now mine by ∷ []
preempted_is system past now last best mine by is e f comes =
    ap (λ (o : Option Job). preempted system past o best) e
    ∙ ap (preempted system past (Some mine)) f
    ∙ ap (λ (b : Bool). if b then Preempt (length past) mine by ∷ [] else []) comes
    ∙ ap (λ (n : ℕ). Preempt n mine by ∷ []) is

pub preempted_not : (system : System) (past : List Slot) (last best : Option Job) (mine by : Job) → last ≡ Some mine → best ≡ Some by → (not (same mine by) && not (is_finished system past mine)) ≡ false
    → preempted system past last best ≡ []
preempted_not system past last best mine by e f comes =
    ap (λ (o : Option Job). preempted system past o best) e
    ∙ ap (preempted system past (Some mine)) f
    ∙ ap (λ (b : Bool). if b then Preempt (length past) mine by ∷ [] else []) comes

pub preempts_is : (system : System) (past : List Slot) (mine by : Job) (below : Bool) → same mine by ≡ false → is_finished system past mine ≡ not below → below ≡ (not (same mine by) && not (is_finished system past mine))
preempts_is system past mine by below apart finished =
    twice below
    ∙ ap (λ (b : Bool). not false && not b) (sym finished)
    ∙ ap (λ (b : Bool). not b && not (is_finished system past mine)) (sym apart)
  where
    twice : (b : Bool) → b ≡ (not false && not (not b))
    twice true = refl
    twice false = refl

-- the job of a slot is the chosen one
tick_job : (system : System) (past : List Slot) (mine : Job) (p : Progress) (asked : Option Asked) → job_in (tick_in system past mine p asked) ≡ Some mine
tick_job system past mine p None = refl
tick_job system past mine p (Some asked) = refl

slot_job : (system : System) (past : List Slot) (o : Option Job) → job_in (slot_of system past o) ≡ o
slot_job system past None = refl
slot_job system past (Some mine) = tick_job system past mine (progress system mine past) (decides system (item_at system mine (progress system mine past).complete) (progress system mine past).made)

pub job_of_slot : (system : System) (now : ℕ) (states : List State) → AreStates system (slots system now) (now + 1) states → best_of system (length system.tasks) states ≡ job_in (slot_at system now)
job_of_slot system now states kept = sym (slot_job system (slots system now) (chosen system (slots system now)) ∙ chosen_is system now states kept)

pub last_of_next : (system : System) (now : ℕ) → last_job (slots system (now + 1)) ≡ job_in (slot_at system now)
last_of_next system now = rw (add-one now) refl

-- all that is told of a slot
pub all_told : (system : System) (now : ℕ) (last best : Option Job) (first second third fourth : List Event) → first ≡ [] → last ≡ last_job (slots system now) → best ≡ job_in (slot_at system now)
    → second ≡ first ++ misses system (slots system now) ++ releases system now
    → third ≡ second ++ preempted system (slots system now) last best
    → fourth ≡ third ++ (decision system (slots system now) (slot_at system now) ++ finish system (slots system now) (slot_at system now))
    → fourth ≡ events_of system (slots system now) (slot_at system now)
all_told system now last best first second third fourth none l b e f g =
    let past = slots system now in
    let d = decision system past (slot_at system now) in
    let x = finish system past (slot_at system now) in
    g
    ∙ sym (append_assoc third d x)
    ∙ ap (λ (es : List Event). es ++ d ++ x) (f
    ∙ ap (λ (es : List Event). es ++ preempted system past last best) (e ∙ ap (λ (es : List Event). es ++ misses system past ++ releases system now) none ∙ ap (λ (n : ℕ). misses system past ++ releases system n) (sym (slots_count system now)))
    ∙ ap (λ (o : Option Job). misses system past ++ releases system (length past) ++ preempted system past o best) l
    ∙ ap (λ (o : Option Job). misses system past ++ releases system (length past) ++ preempted system past (last_job past) o) b)
