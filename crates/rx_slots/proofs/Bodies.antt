-- Entries follow the bodies of their tasks.
use Rattle.std.proofs.Common.{ℕ, zero, suc, ◌≡◌, ◌≢◌, ◌≤◌, ◌<◌, ◌+◌, ◌==◌, nat_le, Bool, true, false, if◌then◌else◌, List, [], ◌∷◌, ◌++◌, length, get_or, take, map, reverse, Option, Some, None, refl, sym, ◌∙◌, ap, arith, subst, add-one, append-nil, append_assoc}
use Rattle.std.specs.List.{slice_get}
use Rattle.std.proofs.Math.Decide.{dec_le}
use Rattle.std.proofs.lemmas.Bool.{lt-leb, le-leb, false≢true}
use Rattle.std.proofs.lemmas.Bool.Decides.{nat_tests}
use Rattle.std.proofs.lemmas.List.{map-append, take_all}
use Rattle.std.proofs.lemmas.Grind.{flat_map-append, reverse_onto}
use Rattle.std.proofs.lemmas.Option.{slice_get-get_or}
use Rattle.rx_seq.specs.declared.entries.Entry.{Entry}
use Rattle.rx_seq.specs.History.{entry_after}
use Rattle.rx_seq.specs.Legal.{entries_of}
use Rattle.rx_set.specs.declared.items.Item.{Item}
use Rattle.rx_set.specs.declared.items.Item.TheVariants.{Work, Op}
use Rattle.rx_set.specs.declared.jobs.Job.{Job}
use Rattle.rx_set.specs.System.{System, task_at, task_of, parts_of, demanded}
use Rattle.rx_set.specs.Valid.{IsValid}
use Rattle.rx_set.proofs.Keys.{key_order}
use Rattle.rx_set.proofs.Releases.{release_order}
use Rattle.rx_set.specs.Operations.{Asked, asked_of, operation_of, operations_of}
use Rattle.rx_slots.specs.Schedule.{Slot, Idle, Busy, Decide, Progress, job_in, same, start, ticked, completed, ends_work, progress, is_finished, history, jobs_of, slots, slot_at}
use Rattle.rx_slots.specs.Laws.{who, finished_before, slots_of, asked_by, nth_job, operations_up_to, operations_in, IsPendingAt, FollowsBodies}
use Rattle.rx_slots.proofs.Lists.{some_same, none_not}
use Rattle.rx_slots.proofs.Choices.{idle_none, who_pending, who_least}
use Rattle.rx_slots.proofs.Steps.{IsOther, IsOwn, Goes, Works, Loses, Wins, item_in, made_in, busy_after, other_slot, own_at}
use Rattle.rx_slots.proofs.Shares.{stated_op}
use Rattle.rx_slots.proofs.Attempts.{entry_made}

-- a job has a slot only after all earlier jobs of its task are finished: they were released before it, and their keys are lower
pub in_turn : (system : System) (n k : ℕ) (job : Job) → IsValid system → who system n ≡ Some job → 1 ≤ k → k < job.number → finished_before system (nth_job job.task k) n ≡ true
in_turn system n k job valid owner low below = by_test (finished_before system (nth_job job.task k) n) refl
  where
    is : IsPendingAt system n job
    is = who_pending system n job owner

    by_test : (b : Bool) → finished_before system (nth_job job.task k) n ≡ b → finished_before system (nth_job job.task k) n ≡ true
    by_test true e = e
    by_test false e =
        let pending : IsPendingAt system n (nth_job job.task k) = record {
          known = record { task = is.known.task; number = low };
          released = omega (arith, is.released, release_order system job.task k job.number (omega arith));
          unfinished = e;
        } in
        absurd (false≢true (sym ((who_least system n job valid owner).least (nth_job job.task k) pending) ∙ key_order system job.task k job.number below))

-- the items of a task, and how many of them are complete of the job after so many finished ones
abbrev body : System → ℕ → List Item
body system task = (task_at system task).items

abbrev reached : System → ℕ → ℕ → List Slot → ℕ
reached system task finished past = (progress system (nth_job task (suc finished)) past).complete

-- the operations of so many finished jobs, and of so many items of the next one
abbrev brought : System → ℕ → ℕ → ℕ → List Asked
brought system task finished complete = operations_up_to system task finished ++ operations_of (take complete (body system task))

-- after the past the jobs 1 to finished of a task are finished, the next one is not, later ones have had no tick, and the entries follow the bodies
pub record IsServed (system : System) (task : ℕ) (past : List Slot) : Type 0 where
  pub finished : ℕ
  pub done : (k : ℕ) → 1 ≤ k → k ≤ finished → is_finished system past (nth_job task k) ≡ true
  pub in_hand : reached system task finished past < length (body system task)
  pub later : (k : ℕ) → suc finished < k → progress system (nth_job task k) past ≡ start
  pub none : (k : ℕ) → suc finished < k → slots_of (nth_job task k) past ≡ 0
  pub entries : operations_in task (history past) ≡ brought system task finished (reached system task finished past)

apart : (a b : Job) → a.number ≢ b.number → same a b ≡ false
apart a b h = grind (arith, nat_tests)

apart_task : (a b : Job) → a.task ≢ b.task → same a b ≡ false
apart_task a b h = grind (arith, nat_tests)

-- a slot that is no job's of the task
stays : (system : System) (task : ℕ) (past : List Slot) (slot : Slot) → ((k : ℕ) → IsOther system past (nth_job task k) slot) → operations_in task (history (slot ∷ past)) ≡ operations_in task (history past)
    → IsServed system task past → IsServed system task (slot ∷ past)
stays system task past slot others same_entries s = record {
  finished = s.finished;
  done = λ k low high. ap (λ (p : Progress). nat_le (length (body system task)) p.complete) (others k).stays ∙ s.done k low high;
  in_hand = subst (λ (p : Progress). p.complete < length (body system task)) (sym (others (suc s.finished)).stays) s.in_hand;
  later = λ k above. (others k).stays ∙ s.later k above;
  none = λ k above. omega (arith, s.none k above, (others k).none);
  entries =
      same_entries ∙ s.entries
      ∙ ap (λ (p : Progress). brought system task s.finished p.complete) (sym (others (suc s.finished)).stays);
}

-- one more item of a list
take_next : (items : List Item) (c : ℕ) (item : Item) → slice_get items c ≡ Some item → take (suc c) items ≡ take c items ++ (item ∷ [])
take_next [] c item e = cc
take_next (x ∷ items) zero item e = let here : x ≡ item = cc in ap (λ (i : Item). i ∷ []) here
take_next (x ∷ items) (suc c) item e = ap (λ (is : List Item). x ∷ is) (take_next items c item e)

operations_next : (items : List Item) (c : ℕ) (item : Item) → slice_get items c ≡ Some item → operations_of (take (suc c) items) ≡ operations_of (take c items) ++ operation_of item
operations_next items c item e =
    ap operations_of (take_next items c item e)
    ∙ flat_map-append operation_of (take c items) (item ∷ [])
    ∙ ap (λ (xs : List Asked). operations_of (take c items) ++ xs) (append-nil (operation_of item))

up_to_next : (system : System) (task n : ℕ) → operations_up_to system task (suc n) ≡ operations_up_to system task n ++ operations_of (body system task)
up_to_next system task n =
    flat_map-append (λ (j : Job). operations_of (task_of system j).items) (jobs_of task n) (nth_job task (suc n) ∷ [])
    ∙ ap (λ (xs : List Asked). operations_up_to system task n ++ xs) (append-nil (operations_of (body system task)))

same_number : (a : ℕ) → (a == a) ≡ true
same_number a = grind (arith, nat_tests)

other_number : (a b : ℕ) → a ≢ b → (a == b) ≡ false
other_number a b h = grind (arith, nat_tests)

-- one more entry, of the task or of another
entry_of : (task : ℕ) (entry : Entry) (before : List Entry) → entry.caller ≡ task → operations_in task (entry ∷ before) ≡ operations_in task before ++ (asked_of entry ∷ [])
entry_of task entry before e =
    let mine : (task == entry.caller) ≡ true = ap (λ (t : ℕ). task == t) e ∙ same_number task in
    ap (λ (b : Bool). map asked_of (reverse (if b then entry ∷ entries_of task before else entries_of task before))) mine
    ∙ ap (map asked_of) (reverse_onto (entries_of task before) entry [])
    ∙ map-append asked_of (reverse (entries_of task before)) (entry ∷ [])

entry_of_other : (task : ℕ) (entry : Entry) (before : List Entry) → entry.caller ≢ task → operations_in task (entry ∷ before) ≡ operations_in task before
entry_of_other task entry before h =
    let other : (task == entry.caller) ≡ false = other_number task entry.caller (λ e. h (sym e)) in
    ap (λ (b : Bool). map asked_of (reverse (if b then entry ∷ entries_of task before else entries_of task before))) other

-- a tick of the task's job in hand
module _ (system : System) (task : ℕ) (past : List Slot) (slot : Slot) (s : IsServed system task past) (owner : job_in slot ≡ Some (nth_job task (suc s.finished))) where
  others : (k : ℕ) → suc s.finished ≢ k → IsOther system past (nth_job task k) slot
  others k h =
      other_slot system past (nth_job task k) slot
      (λ x e. ap (λ (j : Job). same j (nth_job task k)) (some_same x (nth_job task (suc s.finished)) (sym e ∙ owner)) ∙ apart (nth_job task (suc s.finished)) (nth_job task k) h)

  others_done : (k : ℕ) → 1 ≤ k → k ≤ s.finished → is_finished system (slot ∷ past) (nth_job task k) ≡ true
  others_done k low high =
      ap (λ (p : Progress). nat_le (length (body system task)) p.complete) (others k (λ e. absurd (omega arith))).stays ∙ s.done k low high

  others_none : (k : ℕ) → suc s.finished < k → slots_of (nth_job task k) (slot ∷ past) ≡ 0
  others_none k above = omega (arith, s.none k above, (others k (λ e. absurd (omega arith))).none)

  others_later : (k : ℕ) → suc s.finished < k → progress system (nth_job task k) (slot ∷ past) ≡ start
  others_later k above = (others k (λ e. absurd (omega arith))).stays ∙ s.later k above

  -- that completes no item
  goes_on : reached system task s.finished (slot ∷ past) ≡ reached system task s.finished past
      → operations_in task (history (slot ∷ past)) ≡ operations_in task (history past) → IsServed system task (slot ∷ past)
  goes_on same_complete same_entries = record {
    finished = s.finished;
    done = others_done;
    in_hand = omega (arith, s.in_hand, same_complete);
    later = others_later;
    none = others_none;
    entries = same_entries ∙ s.entries ∙ ap (brought system task s.finished) (sym same_complete);
  }

  -- that completes one
  completes : (item : Item) → slice_get (body system task) (reached system task s.finished past) ≡ Some item
      → reached system task s.finished (slot ∷ past) ≡ reached system task s.finished past + 1
      → operations_in task (history (slot ∷ past)) ≡ operations_in task (history past) ++ operation_of item → IsServed system task (slot ∷ past)
  completes item there one_more more_entries = elim (dec_le (length (body system task)) (reached system task s.finished (slot ∷ past))) [
    | yes all ↦
        let next : progress system (nth_job task (suc (suc s.finished))) (slot ∷ past) ≡ start = others_later (suc (suc s.finished)) (omega arith) in
        let next_complete : (progress system (nth_job task (suc (suc s.finished))) (slot ∷ past)).complete ≡ 0 = ap (λ (p : Progress). p.complete) next in
        record {
          finished = suc s.finished;
          done = λ k low high. elim (dec_le k s.finished) [
            | yes before ↦ others_done k low before
            | no this ↦
                let here : k ≡ suc s.finished = omega arith in
                ap (λ (m : ℕ). is_finished system (slot ∷ past) (nth_job task m)) here
                ∙ le-leb (length (body system task)) (reached system task s.finished (slot ∷ past)) all
          ];
          in_hand = omega (arith, s.in_hand, next_complete);
          later = λ k above. others_later k (omega arith);
          none = λ k above. others_none k (omega arith);
          entries =
              now
              ∙ ap (λ (is : List Item). operations_up_to system task s.finished ++ operations_of is) (take_all (reached system task s.finished (slot ∷ past)) (body system task) all)
              ∙ sym (up_to_next system task s.finished)
              ∙ sym (append-nil (operations_up_to system task (suc s.finished)))
              ∙ ap (brought system task (suc s.finished)) (sym next_complete);
        }
    | no some ↦ record { finished = s.finished; done = others_done; in_hand = omega arith; later = others_later; none = others_none; entries = now }
  ]
    where
      now : operations_in task (history (slot ∷ past)) ≡ brought system task s.finished (reached system task s.finished (slot ∷ past))
      now =
          more_entries
          ∙ ap (λ (xs : List Asked). xs ++ operation_of item) s.entries
          ∙ append_assoc (operations_up_to system task s.finished)
          (operations_of (take (reached system task s.finished past) (body system task))) (operation_of item)
          ∙ ap (λ (xs : List Asked). operations_up_to system task s.finished ++ xs)
          (sym (operations_next (body system task) (reached system task s.finished past) item there))
          ∙ ap (brought system task s.finished) (sym (one_more ∙ add-one (reached system task s.finished past)))

  -- an item that a tick of work completes is no operation
  works : slot ≡ Busy (nth_job task (suc s.finished)) → made_in system past (nth_job task (suc s.finished)) + 1 ≡ asked_by system (item_in system past (nth_job task (suc s.finished)))
      → progress system (nth_job task (suc s.finished)) (slot ∷ past) ≡ completed (progress system (nth_job task (suc s.finished)) past)
      → (item : Item) → slice_get (body system task) (reached system task s.finished past) ≡ Some item → operation_of item ≡ []
  works is all next (Work ticks) there = refl
  works is all next (Op object call) there =
      let asks : item_in system past (nth_job task (suc s.finished)) ≡ Some (Op object call)
      = ap (demanded system.demands (nth_job task (suc s.finished)) (reached system task s.finished past + 1)) there in
      let goes : progress system (nth_job task (suc s.finished)) (slot ∷ past) ≡ ticked (length past) (progress system (nth_job task (suc s.finished)) past)
      = busy_after system past (nth_job task (suc s.finished)) slot false is (ap (λ (o : Option Item). ends_work o (made_in system past (nth_job task (suc s.finished)))) asks) in
      let made_none : (progress system (nth_job task (suc s.finished)) (slot ∷ past)).made ≡ 0 = ap (λ (p : Progress). p.made) next in
      let made_some : (progress system (nth_job task (suc s.finished)) (slot ∷ past)).made ≡ (progress system (nth_job task (suc s.finished)) past).made + 1 = ap (λ (p : Progress). p.made) goes in
      absurd (omega arith)

  pub moves : IsOwn system past (nth_job task (suc s.finished)) slot → IsServed system task (slot ∷ past)
  moves (Goes is some next) = goes_on (ap (λ (p : Progress). p.complete) next) (ap (λ (x : Slot). operations_in task (history (x ∷ past))) is)
  moves (Works is all next) =
      let c : ℕ = reached system task s.finished past in
      let item : Item = get_or (body system task) c (Work 0) in
      let there : slice_get (body system task) c ≡ Some item = slice_get-get_or (body system task) c (Work 0) s.in_hand in
      completes item there (ap (λ (p : Progress). p.complete) next)
      (ap (λ (x : Slot). operations_in task (history (x ∷ past))) is ∙ sym (append-nil (operations_in task (history past)))
      ∙ ap (λ (xs : List Asked). operations_in task (history past) ++ xs) (sym (works is all next item there)))
  moves (Loses object call is item all spoiled next) = goes_on (ap (λ (p : Progress). p.complete) next) (ap (λ (x : Slot). operations_in task (history (x ∷ past))) is)
  moves (Wins object call is item all calm next) =
      let c : ℕ = reached system task s.finished past in
      completes (Op object call) (stated_op system.demands (nth_job task (suc s.finished)) (c + 1) object call (slice_get (body system task) c) item)
      (ap (λ (p : Progress). p.complete) next)
      (ap (λ (x : Slot). operations_in task (history (x ∷ past))) is ∙ entry_of task (entry_after (parts_of system) (history past) task object call) (history past) refl)

-- a slot of another task's job makes no entry of this task
other_entries : (system : System) (n task : ℕ) (job : Job) (slot : Slot) → slot_at system n ≡ slot → job_in slot ≡ Some job → job.task ≢ task
    → operations_in task (history (slot ∷ slots system n)) ≡ operations_in task (history (slots system n))
other_entries system n task job Idle e owner h = refl
other_entries system n task job (Busy other) e owner h = refl
other_entries system n task job (Decide other object None) e owner h = refl
other_entries system n task job (Decide other object (Some entry)) e owner h =
    let caller : entry.caller ≡ other.task = (entry_made system n other object entry e).caller in
    let other_is : other ≡ job = some_same other job owner in
    entry_of_other task entry (history (slots system n)) (λ f. h (sym (caller ∙ ap (λ (j : Job). j.task) other_is) ∙ f))

-- the job of a task that has the slot is the first unfinished one
first_unfinished : (system : System) (n : ℕ) (job : Job) → IsValid system → who system n ≡ Some job → (s : IsServed system job.task (slots system n)) → job.number ≡ suc s.finished
first_unfinished system n job valid owner s = elim (dec_le job.number s.finished) [
  | yes before ↦ absurd (false≢true (sym is.unfinished ∙ s.done job.number is.known.number before))
  | no above ↦ elim (dec_le job.number (suc s.finished)) [
    | yes this ↦ omega arith
    | no later ↦
        absurd (false≢true (sym (lt-leb (length (task_of system job).items) (reached system job.task s.finished (slots system n)) s.in_hand)
        ∙ in_turn system n (suc s.finished) job valid owner (omega arith) (omega arith)))
  ]
]
  where
    is : IsPendingAt system n job
    is = who_pending system n job owner

own_moves : (system : System) (n : ℕ) (job : Job) → IsValid system → who system n ≡ Some job → IsServed system job.task (slots system n) → IsServed system job.task (slots system (suc n))
own_moves system n job valid owner s =
    let number : job.number ≡ suc s.finished = first_unfinished system n job valid owner s in
    let job_is : job ≡ nth_job job.task (suc s.finished) = ap (nth_job job.task) number in
    moves system job.task (slots system n) (slot_at system n) s (owner ∙ ap Some job_is)
    (subst (λ (j : Job). IsOwn system (slots system n) j (slot_at system n)) job_is (own_at system n job owner))

served : (system : System) (task n : ℕ) → IsValid system → task < length system.tasks → IsServed system task (slots system n)
served system task zero valid known = record {
  finished = 0;
  done = λ k low high. absurd (omega arith);
  in_hand = (valid.tasks task known).some_items.0;
  later = λ k above. refl;
  none = λ k above. refl;
  entries = refl;
}
served system task (suc n) valid known = by_owner (who system n) refl (served system task n valid known)
  where
    by_task : (job : Job) → who system n ≡ Some job → (b : Bool) → (job.task == task) ≡ b → IsServed system task (slots system n) → IsServed system task (slots system (suc n))
    by_task job owner true e s =
        let here : job.task ≡ task = grind (arith, nat_tests) in
        subst (λ (t : ℕ). IsServed system t (slots system (suc n))) here
        (own_moves system n job valid owner (subst (λ (t : ℕ). IsServed system t (slots system n)) (sym here) s))
    by_task job owner false e s =
        let elsewhere : job.task ≢ task = grind (arith, nat_tests) in
        stays system task (slots system n) (slot_at system n)
        (λ k. other_slot system (slots system n) (nth_job task k) (slot_at system n)
        (λ x f. ap (λ (j : Job). same j (nth_job task k)) (some_same x job (sym f ∙ owner)) ∙ apart_task job (nth_job task k) elsewhere))
        (other_entries system n task job (slot_at system n) refl owner elsewhere) s

    by_owner : (o : Option Job) → who system n ≡ o → IsServed system task (slots system n) → IsServed system task (slots system (suc n))
    by_owner None e s =
        stays system task (slots system n) (slot_at system n)
        (λ k. other_slot system (slots system n) (nth_job task k) (slot_at system n) (λ x f. absurd (none_not x (sym e ∙ f))))
        (ap (λ (x : Slot). operations_in task (history (x ∷ slots system n))) (idle_none (slot_at system n) e)) s
    by_owner (Some job) e s = by_task job e (job.task == task) refl s

-- the entries of each task follow its bodies
pub follows : (system : System) (task n : ℕ) → IsValid system → task < length system.tasks → FollowsBodies system task n
follows system task n valid known =
    let s = served system task n valid known in record {
      finished = s.finished;
      done = s.done;
      in_hand = lt-leb (length (body system task)) (reached system task s.finished (slots system n)) s.in_hand;
      later = s.none;
      entries = s.entries;
    }
