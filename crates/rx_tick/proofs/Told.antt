-- Misses and releases, task by task, by what is kept of a task.
use Rattle.std.proofs.Common.{ℕ, zero, suc, ◌≡◌, ◌≢◌, ◌≤◌, ◌<◌, ◌+◌, ◌-◌, ◌*◌, ◌==◌, ◌&&◌, nat_le, not, Bool, true, false, List, [], ◌∷◌, ◌++◌, length, map, filter, refl, sym, ◌∙◌, ap, arith, subst, add-one, append_assoc, append-nil}
use Rattle.std.proofs.Common.{get_or, slice_set, min}
use Rattle.std.proofs.lemmas.List.{get_or-set_other, length-set, get_or-map, length-map}
use Rattle.std.proofs.Math.Decide.{dec_le}
use Rattle.rx_set.specs.declared.tasks.Task.{Task}
use Rattle.rx_set.specs.View.{row_of}
use Rattle.std.proofs.lemmas.Bool.{lt-leb, le-leb}
use Rattle.std.proofs.lemmas.Bool.Decides.{nat_tests}
use Rattle.rx_set.specs.declared.jobs.Job.{Job}
use Rattle.rx_set.specs.System.{System, TaskRow, no_task, task_at, release, due}
use Rattle.rx_set.specs.Valid.{IsValid}
use Rattle.rx_set.proofs.Releases.{release_order, release_apart, number_bound}
use Rattle.rx_ledger.specs.declared.events.Event.TheVariants.{Miss, Release}
use Rattle.rx_tick.specs.declared.states.State.{State}
use Rattle.rx_slots.specs.Schedule.{Slot, Progress, is_finished, jobs_of, slots}
use Rattle.rx_slots.specs.Events.{is_missed, is_released_at, misses, releases}
use Rattle.rx_tick.specs.States.{job, IsState, IsBeforeDue, AreBeforeDue, AreBeforeRelease, AreStates, is_late_at, in_hand, no_state, state_at, misses_at, releases_at}
use Rattle.rx_slots.proofs.Prefixes.{slots_count}
use Rattle.rx_tick.proofs.Written.{at_written}
use Rattle.rx_slots.proofs.Lists.{none_of, only_of, told_of, told_more}

one_more : (b period : ℕ) → (b + 1) * period ≡ b * period + period
one_more b period = grind arith

next_by : (offset period a b : ℕ) → a ≡ b + 1 → offset + a * period ≡ offset + b * period + period
next_by offset period a b h = rw h (omega (arith, one_more b period))

-- the next job is released a period later
pub release_next : (system : System) (task k : ℕ) → 1 ≤ k → release system (job task (k + 1)) ≡ release system (job task k) + (task_at system task).period
release_next system task k h = next_by (task_at system task).offset (task_at system task).period (k + 1 - 1) (k - 1) (omega arith)

module _ (system : System) (past : List Slot) (time task : ℕ) (s : State) (kept : IsState system past time task s) where
  -- a job is finished if its number is among the first
  pub finished_is : (k : ℕ) → 1 ≤ k → is_finished system past (job task k) ≡ nat_le k s.finished
  finished_is k low = elim (dec_le k s.finished) [
    | yes h ↦ kept.finished k low h ∙ sym (le-leb k s.finished h)
    | no h ↦ elim (dec_le k (s.finished + 1)) [
      | yes g ↦
          let same : k ≡ s.finished + 1 = omega arith in
          ap (λ (n : ℕ). is_finished system past (job task n)) same
          ∙ ap (λ (p : Progress). nat_le (length (task_at system task).items) p.complete) kept.started
          ∙ lt-leb (length (task_at system task).items) s.complete kept.unfinished
          ∙ sym (lt-leb k s.finished (omega arith))
      | no g ↦
          ap (λ (p : Progress). nat_le (length (task_at system task).items) p.complete) (kept.later k (omega arith))
          ∙ lt-leb (length (task_at system task).items) 0 (omega (arith, kept.unfinished))
          ∙ sym (lt-leb k s.finished (omega arith))
    ]
  ]

  -- the latest released job is due a deadline after its release, which was a period before the next
  pub due_is : 1 ≤ s.released → due system (job task s.released) + (task_at system task).period ≡ s.next + (task_at system task).deadline
  due_is some = let e = release_next system task s.released some in let n = kept.next_release in omega arith

  some_period : IsValid system → task < length system.tasks → (1 ≤ (task_at system task).period) × ((task_at system task).period ≤ 1000000)
  some_period valid known = (valid.tasks task known).period

  pub released_bound : IsValid system → task < length system.tasks → s.released ≤ time
  released_bound valid known = elim (dec_le 1 s.released) [
    | yes some ↦
        let last = kept.last some in
        let bound = number_bound system (job task s.released) (time - 1) valid known (omega arith) in
        omega arith
    | no none ↦ omega arith
  ]

  first_release : s.released ≡ 0 → s.next ≡ (task_at system task).offset
  first_release none = kept.next_release ∙ ap (λ (n : ℕ). release system (job task (n + 1))) none ∙ omega arith

  pub next_bound : IsValid system → task < length system.tasks → s.next ≤ time + 1000000
  next_bound valid known = elim (dec_le 1 s.released) [
    | yes some ↦ omega (arith, kept.last some, release_next system task s.released some, kept.next_release, (some_period valid known).1)
    | no none ↦ omega (arith, first_release (omega arith), (valid.tasks task known).offset)
  ]

  -- of the jobs of a task only the latest released one can be due at this time
  not_due_before : IsValid system → task < length system.tasks → (k : ℕ) → 1 ≤ k → k < s.released → due system (job task k) < time
  not_due_before valid known k low h =
      omega (arith, kept.last (omega arith), release_apart system task k s.released low h, (valid.tasks task known).deadline.1)

  not_due_after : IsValid system → task < length system.tasks → (k : ℕ) → s.released < k → time < due system (job task k)
  not_due_after valid known k h =
      omega (arith, kept.next_release, kept.next, release_order system task (s.released + 1) k (omega arith), (valid.tasks task known).deadline.0)

  missed_by : (k : ℕ) (d : ℕ) (b : Bool) → due system (job task k) ≡ d → is_finished system past (job task k) ≡ b → is_missed system past (job task k) ≡ ((d == length past) && not b)
  missed_by k d b e f = ap (λ (x : ℕ). (x == length past) && not (is_finished system past (job task k))) e ∙ ap (λ (x : Bool). (d == length past) && not x) f

  not_missed : (k : ℕ) → length past ≡ time → due system (job task k) ≢ time → is_missed system past (job task k) ≡ false
  not_missed k now h = grind (arith, nat_tests)

  -- what is missed now
  pub missed_some : IsValid system → task < length system.tasks → length past ≡ time → is_late_at (task_at system task) time s ≡ true
      → filter (is_missed system past) (jobs_of task (time + 1)) ≡ job task s.released ∷ []
  missed_some valid known now late =
      let released : s.finished < s.released = grind (arith, nat_tests) in
      let same : s.next + (task_at system task).deadline ≡ time + (task_at system task).period = grind (arith, nat_tests) in
      let due_now : due system (job task s.released) ≡ time = omega (arith, due_is (omega arith)) in
      let unfinished : is_finished system past (job task s.released) ≡ false = finished_is s.released (omega arith) ∙ lt-leb s.released s.finished released in
      only_of (is_missed system past) task (time + 1) s.released (omega arith) (omega (arith, released_bound valid known))
      (missed_by s.released time false due_now unfinished ∙ grind (arith, nat_tests))
      (λ k low high other. not_missed k now (elim (dec_le k s.released) [
        | yes below ↦ λ e. absurd (omega (arith, not_due_before valid known k low (omega arith)))
        | no above ↦ λ e. absurd (omega (arith, not_due_after valid known k (omega arith)))
      ]))

  pub missed_none : IsValid system → task < length system.tasks → length past ≡ time → is_late_at (task_at system task) time s ≡ false
      → filter (is_missed system past) (jobs_of task (time + 1)) ≡ []
  missed_none valid known now calm =
      none_of (is_missed system past) task (time + 1) (λ k low high. elim (dec_le k s.released) [
        | yes below ↦ elim (dec_le s.released k) [
          | yes at ↦ latest k low (omega arith)
          | no under ↦ not_missed k now (λ e. absurd (omega (arith, not_due_before valid known k low (omega arith))))
        ]
        | no above ↦ not_missed k now (λ e. absurd (omega (arith, not_due_after valid known k (omega arith))))
      ])
    where
      latest : (k : ℕ) → 1 ≤ k → k ≡ s.released → is_missed system past (job task k) ≡ false
      latest k low e =
          let f : is_finished system past (job task k) ≡ nat_le k s.finished = finished_is k low in
          let d : due system (job task s.released) + (task_at system task).period ≡ s.next + (task_at system task).deadline = due_is (omega arith) in
          let g : due system (job task k) + (task_at system task).period ≡ s.next + (task_at system task).deadline = ap (λ (n : ℕ). due system (job task n) + (task_at system task).period) e ∙ d in
          missed_by k (due system (job task k)) (nat_le k s.finished) refl f ∙ grind (arith, nat_tests)

  -- what is released now
  not_released_before : IsValid system → task < length system.tasks → (k : ℕ) → 1 ≤ k → k ≤ s.released → is_released_at system time (job task k) ≡ false
  not_released_before valid known k low h =
      let early : release system (job task k) < time = omega (arith, kept.last (omega arith), release_order system task k s.released h) in
      grind (arith, nat_tests)

  not_released_after : IsValid system → task < length system.tasks → (k : ℕ) → s.released + 1 < k → is_released_at system time (job task k) ≡ false
  not_released_after valid known k h =
      let late : time < release system (job task k) = omega (arith, kept.next_release, kept.next, release_apart system task (s.released + 1) k (omega arith) h, (some_period valid known).0) in
      grind (arith, nat_tests)

  pub released_some : IsValid system → task < length system.tasks → s.next ≡ time
      → filter (is_released_at system time) (jobs_of task (time + 1)) ≡ job task (s.released + 1) ∷ []
  released_some valid known now =
      let here : release system (job task (s.released + 1)) ≡ time = omega (arith, kept.next_release) in
      only_of (is_released_at system time) task (time + 1) (s.released + 1) (omega arith) (omega (arith, released_bound valid known))
      (grind (arith, nat_tests))
      (λ k low high other. elim (dec_le k s.released) [
        | yes below ↦ not_released_before valid known k low below
        | no above ↦ not_released_after valid known k (omega arith)
      ])

  pub released_none : IsValid system → task < length system.tasks → s.next ≢ time
      → filter (is_released_at system time) (jobs_of task (time + 1)) ≡ []
  released_none valid known later =
      none_of (is_released_at system time) task (time + 1) (λ k low high. elim (dec_le k s.released) [
        | yes below ↦ not_released_before valid known k low below
        | no above ↦ elim (dec_le k (s.released + 1)) [
          | yes at ↦ next_one k (omega arith)
          | no beyond ↦ not_released_after valid known k (omega arith)
        ]
      ])
    where
      next_one : (k : ℕ) → k ≡ s.released + 1 → is_released_at system time (job task k) ≡ false
      next_one k e =
          let there : release system (job task k) ≡ s.next = ap (λ (n : ℕ). release system (job task n)) e ∙ sym kept.next_release in
          grind (arith, nat_tests)

  -- the same with one more job released
  pub state_released : IsValid system → task < length system.tasks → s.next ≡ time
      → IsState system past (time + 1) task (record s { released = s.released + 1; next = s.next + (task_at system task).period })
  state_released valid known now = record {
    finished = kept.finished;
    started = kept.started;
    unfinished = kept.unfinished;
    later = kept.later;
    next_release = ap (λ (n : ℕ). n + (task_at system task).period) kept.next_release ∙ sym (release_next system task (s.released + 1) (omega arith));
    next = omega (arith, (some_period valid known).0);
    last = λ some. omega (arith, kept.next_release);
    order = omega (arith, kept.order);
  }

  pub state_waits : time < s.next → IsState system past (time + 1) task s
  state_waits later = record {
    finished = kept.finished;
    started = kept.started;
    unfinished = kept.unfinished;
    later = kept.later;
    next_release = kept.next_release;
    next = omega arith;
    last = λ some. omega (arith, kept.last some);
    order = kept.order;
  }

-- the misses and the releases of the first tasks
pub misses_more : (system : System) (now tasks : ℕ) (past : List Slot) → told_of (Miss now) (is_missed system past) now (tasks + 1) ≡ told_of (Miss now) (is_missed system past) now tasks ++ misses_at system past now tasks
misses_more system now tasks past = rw (add-one tasks) (told_more (Miss now) (is_missed system past) now tasks)

pub releases_more : (system : System) (now tasks : ℕ) → told_of (Release now) (is_released_at system now) now (tasks + 1) ≡ told_of (Release now) (is_released_at system now) now tasks ++ releases_at system now tasks
releases_more system now tasks = rw (add-one tasks) (told_more (Release now) (is_released_at system now) now tasks)

pub misses_all : (system : System) (now tasks : ℕ) → tasks ≡ length system.tasks → told_of (Miss now) (is_missed system (slots system now)) now tasks ≡ misses system (slots system now)
misses_all system now tasks e =
    ap (λ (t : ℕ). told_of (Miss now) (is_missed system (slots system now)) now t) e
    ∙ ap (λ (n : ℕ). told_of (Miss n) (is_missed system (slots system now)) n (length system.tasks)) (sym (slots_count system now))

pub releases_all : (system : System) (now tasks : ℕ) → tasks ≡ length system.tasks → told_of (Release now) (is_released_at system now) now tasks ≡ releases system now
releases_all system now tasks e = ap (λ (t : ℕ). told_of (Release now) (is_released_at system now) now t) e

-- what is appended after what came before
pub append_more : {X : Type 0} (start before more now told : List X) → now ≡ start ++ before → told ≡ now ++ more → told ≡ start ++ (before ++ more)
append_more start before more now told e f = f ∙ ap (λ (xs : List _). xs ++ more) e ∙ append_assoc start before more

pub append_none : {X : Type 0} (xs ys : List X) → ys ≡ [] → xs ≡ xs ++ ys
append_none xs ys e = sym (append-nil xs) ∙ ap (λ (zs : List _). xs ++ zs) (sym e)

-- nothing is told of a time that is before the watch
quiet : {X : Type 0} (make : Job → X) (test : Job → Bool) (n tasks : ℕ) → ((task : ℕ) → task < tasks → filter test (jobs_of task (n + 1)) ≡ []) → told_of make test n tasks ≡ []
quiet make test n zero h = refl
quiet make test n (suc tasks) h =
    told_more make test n tasks
    ∙ ap (λ (js : List Job). told_of make test n tasks ++ map make js) (h tasks (omega arith))
    ∙ append-nil (told_of make test n tasks)
    ∙ quiet make test n tasks (λ task below. h task (omega arith))

not_late : (system : System) (past : List Slot) (time task watch : ℕ) (s : State) → IsState system past time task s → IsBeforeDue system time watch task s → time < watch → is_late_at (task_at system task) time s ≡ false
not_late system past time task watch s kept watched early = elim (dec_le s.released s.finished) [
  | yes none ↦ grind (arith, nat_tests)
  | no some ↦
      let due_then : due system (job task s.released) + (task_at system task).period ≡ s.next + (task_at system task).deadline = due_is system past time task s kept (omega arith) in
      let watched_then : time ≤ due system (job task s.released) → watch ≤ due system (job task s.released) = watched (omega arith) in
      let apart : s.next + (task_at system task).deadline ≢ time + (task_at system task).period = λ e. absurd (omega (arith, watched_then (omega arith))) in
      grind (arith, nat_tests)
]

module _ (system : System) (now watch : ℕ) (states : List State) (kept : AreStates system (slots system now) now states) (early : now < watch) where
  pub quiet_misses : AreBeforeDue system now watch states → misses system (slots system now) ≡ []
  quiet_misses watched =
      sym (misses_all system now (length system.tasks) refl)
      ∙ quiet (Miss now) (is_missed system (slots system now)) now (length system.tasks) (λ task known.
      missed_none system (slots system now) now task (state_at states task) (kept.each task known) kept.valid known (slots_count system now)
      (not_late system (slots system now) now task watch (state_at states task) (kept.each task known) (watched.each task known) early))

  pub quiet_releases : AreBeforeRelease system watch states → releases system now ≡ []
  quiet_releases watched =
      quiet (Release now) (is_released_at system now) now (length system.tasks) (λ task known.
      released_none system (slots system now) now task (state_at states task) (kept.each task known) kept.valid known
      (λ e. absurd (omega (arith, watched.each task known))))

  pub quiet_states : AreBeforeRelease system watch states → AreStates system (slots system now) (now + 1) states
  quiet_states watched = record {
    valid = kept.valid;
    count = kept.count;
    each = λ task known. state_waits system (slots system now) now task (state_at states task) (kept.each task known) (omega (arith, watched.each task known));
  }

-- what is not due before a time is not due before it from later on
pub due_still : (system : System) (now watch : ℕ) (states : List State) → AreBeforeDue system now watch states → AreBeforeDue system (now + 1) watch states
due_still system now watch states watched = record { each = λ task known unfinished later. watched.each task known unfinished (omega arith) }

pub due_sooner : (system : System) (time task watch sooner : ℕ) (s : State) → IsBeforeDue system time watch task s → sooner ≤ watch → IsBeforeDue system time sooner task s
due_sooner system time task watch sooner s watched h = λ some later. omega (arith, watched some later)

-- what code reads of a task is what is shown of it
pub row_is : (tasks : List Task) (system : System) (k : ℕ) (row : Task) → map row_of tasks ≡ system.tasks → k < length system.tasks → row ≡ get_or tasks k row → task_at system k ≡ row_of row
row_is tasks system k row shown known is =
    ap (λ (rows : List TaskRow). get_or rows k no_task) (sym shown)
    ∙ get_or-map row_of tasks k row no_task (omega (arith, length-map tasks row_of, ap (λ (rows : List TaskRow). length rows) shown))
    ∙ ap row_of (sym is)

-- when the unfinished job of a task is due
pub due_of_job : (system : System) (past : List Slot) (now task : ℕ) (s : State) (row : TaskRow) → IsState system past now task s → IsValid system → task < length system.tasks
    → task_at system task ≡ row → s.finished < s.released → IsBeforeDue system (now + 1) (s.next + row.deadline - row.period) task s
due_of_job system past now task s row kept valid known is unfinished =
    let d = due_is system past now task s kept (omega arith) in
    let deadlines : (task_at system task).deadline ≡ row.deadline = ap (λ (r : TaskRow). r.deadline) is in
    let periods : (task_at system task).period ≡ row.period = ap (λ (r : TaskRow). r.period) is in
    λ some later. omega (arith, d)

-- no unfinished job of the task is due after this time
pub due_of_none : (system : System) (past : List Slot) (now task watch : ℕ) (s : State) (row : TaskRow) → IsState system past now task s → task < length system.tasks
    → task_at system task ≡ row → (s.finished < s.released → s.next + row.deadline ≤ now + row.period) → IsBeforeDue system (now + 1) watch task s
due_of_none system past now task watch s row kept known is none =
    let deadlines : (task_at system task).deadline ≡ row.deadline = ap (λ (r : TaskRow). r.deadline) is in
    let periods : (task_at system task).period ≡ row.period = ap (λ (r : TaskRow). r.period) is in
    λ some later. absurd (omega (arith, due_is system past now task s kept (omega arith), none some))

-- when a job that is released now is due
pub due_of_released : (system : System) (past : List Slot) (now task watch : ℕ) (s : State) (next : ℕ) (row : TaskRow) → IsState system past now task s → s.next ≡ now → task_at system task ≡ row
    → watch ≤ now + row.deadline → IsBeforeDue system (now + 1) watch task (record s { released = s.released + 1; next = next })
due_of_released system past now task watch s next row kept at is h =
    let deadlines : (task_at system task).deadline ≡ row.deadline = ap (λ (r : TaskRow). r.deadline) is in
    λ some later. omega (arith, kept.next_release)

-- the states of the first tasks are those of the next time
pub record AreBetween (system : System) (past : List Slot) (time tasks : ℕ) (states : List State) : Type 0 where
  pub count : length states ≡ length system.tasks
  pub done : (task : ℕ) → task < tasks → IsState system past (time + 1) task (state_at states task)
  pub rest : (task : ℕ) → tasks ≤ task → task < length system.tasks → IsState system past time task (state_at states task)

pub between_more : (system : System) (past : List Slot) (time tasks : ℕ) (states : List State) (s : State) → AreBetween system past time tasks states → tasks < length system.tasks
    → IsState system past (time + 1) tasks s → AreBetween system past time (tasks + 1) (slice_set states tasks s)
between_more system past time tasks states s kept known next = record {
  count = length-set states tasks s ∙ kept.count;
  done = λ task below. at_written (IsState system past (time + 1)) states tasks s (omega (arith, kept.count, known)) next task (λ apart. kept.done task (omega (arith, below, apart)));
  rest = λ task above inside. subst (IsState system past time task) (sym (get_or-set_other states tasks task s no_state (λ e. absurd (omega arith)))) (kept.rest task (omega arith) inside);
}

-- a state that is written, and the others
pub due_write : (system : System) (time watch sooner : ℕ) (states : List State) (task : ℕ) (new : State) → task < length states → AreBeforeDue system time watch states → sooner ≤ watch
    → IsBeforeDue system time sooner task new → AreBeforeDue system time sooner (slice_set states task new)
due_write system time watch sooner states task new inside watched h here = record {
  each = λ other. at_written (λ t s. t < length system.tasks → IsBeforeDue system time sooner t s) states task new inside (λ known. here) other
      (λ apart known. due_sooner system time other watch sooner (state_at states other) (watched.each other known) h);
}

pub next_write : (states : List State) (tasks next : ℕ) (new : State) → tasks < length states → ((task : ℕ) → task < tasks → next ≤ (state_at states task).next)
    → (task : ℕ) → task < tasks + 1 → min next new.next ≤ (state_at (slice_set states tasks new) task).next
next_write states tasks next new inside before task below =
    at_written (λ t s. min next new.next ≤ s.next) states tasks new inside (omega arith) task (λ apart. omega (arith, before task (omega (arith, below, apart))))

-- each task's released jobs are at most as many as there were times
pub between_few : (system : System) (past : List Slot) (time tasks : ℕ) (states : List State) → AreBetween system past time tasks states → IsValid system
    → (task : ℕ) → task < length system.tasks → (state_at states task).released ≤ time + 1
between_few system past time tasks states kept valid task known = elim (dec_le (task + 1) tasks) [
  | yes below ↦ released_bound system past (time + 1) task (state_at states task) (kept.done task (omega arith)) valid known
  | no above ↦ omega (arith, released_bound system past time task (state_at states task) (kept.rest task (omega arith) known) valid known)
]

-- a write of a state that says the same of the item in hand
pub hands_write : (states : List State) (task : ℕ) (new : State) (other : ℕ) → task < length states → in_hand new ≡ in_hand (state_at states task) → in_hand (state_at (slice_set states task new) other) ≡ in_hand (state_at states other)
hands_write states task new other inside e = at_written (λ t s. in_hand s ≡ in_hand (state_at states t)) states task new inside e other (λ apart. refl)
