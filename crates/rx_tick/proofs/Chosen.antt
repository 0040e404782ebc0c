-- The choice of the next job, task by task.
use Rattle.std.proofs.Common.{ℕ, zero, suc, ◌≡◌, ◌≤◌, ◌<◌, ◌+◌, ◌^◌, ◌&&◌, nat_le, nat_lt, not, Bool, true, false, cond, if◌then◌else◌, List, [], ◌∷◌, ◌++◌, length, filter, fold, Option, Some, None, refl, sym, ◌∙◌, ap, arith, subst, append-nil}
use Rattle.std.specs.List.{flat_map}
use Rattle.std.specs.Option.{ForSome}
use Rattle.std.proofs.Math.Decide.{dec_le}
use Rattle.std.proofs.lemmas.Bool.{lt-leb, le-leb, false≢true}
use Rattle.std.proofs.lemmas.Bool.Decides.{nat_tests}
use Rattle.std.proofs.lemmas.List.Elements.{filter-append}
use Rattle.std.proofs.lemmas.Grind.{flat_map-append}
use Rattle.std.proofs.lemmas.Grind.{fold-append}
use Rattle.rx_set.specs.declared.jobs.Job.{Job}
use Rattle.rx_set.specs.System.{System, key, is_below, release, numbers}
use Rattle.rx_set.specs.Valid.{IsValid, IsJob}
use Rattle.rx_set.proofs.Keys.{key_order, below_trans, below_swap}
use Rattle.rx_set.proofs.Releases.{release_order}
use Rattle.rx_tick.specs.declared.states.State.{State}
use Rattle.rx_slots.specs.Schedule.{Slot, sooner, chosen, is_pending, is_finished, jobs_of, slots}
use Rattle.rx_tick.specs.States.{job, state_at, IsState, AreStates, AreOffers, IsOffered, offer, best_of}
use Rattle.rx_slots.proofs.Lists.{some_same, none_not}
use Rattle.rx_slots.proofs.Prefixes.{slots_count}
use Rattle.rx_tick.proofs.Told.{finished_is, released_bound}

-- a later job of a task never takes the place of an earlier one
keeps : (system : System) (task k m : ℕ) (best : Option Job) → k < m → sooner system (sooner system best (job task k)) (job task m) ≡ sooner system best (job task k)
keeps system task k m None h =
    ap (λ (b : Bool). if b then Some (job task m) else Some (job task k)) (below_swap (key system (job task k)) (key system (job task m)) (key_order system task k m h))
keeps system task k m (Some best) h = by_test (is_below (key system (job task k)) (key system best)) refl
  where
    later : is_below (key system (job task m)) (key system (job task k)) ≡ false
    later = below_swap (key system (job task k)) (key system (job task m)) (key_order system task k m h)

    stays : (b : Bool) → is_below (key system (job task m)) (key system best) ≡ b → is_below (key system (job task k)) (key system best) ≡ false → b ≡ false
    stays false e f = refl
    stays true e f = absurd (false≢true (sym f ∙ below_trans (key system (job task k)) (key system (job task m)) (key system best) (key_order system task k m h) e))

    by_test : (b : Bool) → is_below (key system (job task k)) (key system best) ≡ b
        → sooner system (sooner system (Some best) (job task k)) (job task m) ≡ sooner system (Some best) (job task k)
    by_test true e =
        ap (λ (t : Bool). sooner system (if t then Some (job task k) else Some best) (job task m)) e
        ∙ ap (λ (t : Bool). if t then Some (job task m) else Some (job task k)) later
        ∙ ap (λ (t : Bool). if t then Some (job task k) else Some best) (sym e)
    by_test false e =
        ap (λ (t : Bool). sooner system (if t then Some (job task k) else Some best) (job task m)) e
        ∙ ap (λ (t : Bool). if t then Some (job task m) else Some best) (stays (is_below (key system (job task m)) (key system best)) refl e)
        ∙ ap (λ (t : Bool). if t then Some (job task k) else Some best) (sym e)

-- what the jobs 1 to m of a task offer
abbrev pub offered : System → Option Job → ℕ → ℕ → State → Option Job
offered system best task m s = if nat_lt s.finished m && nat_lt s.finished s.released then sooner system best (job task (s.finished + 1)) else best

module _ (system : System) (past : List Slot) (now task : ℕ) (s : State) (kept : IsState system past (now + 1) task s) (length_is : length past ≡ now) where
  released_is : (k : ℕ) → 1 ≤ k → nat_le (release system (job task k)) (length past) ≡ nat_le k s.released
  released_is k low = elim (dec_le k s.released) [
    | yes below ↦
        le-leb (release system (job task k)) (length past) (omega (arith, kept.last (omega arith), release_order system task k s.released below))
        ∙ sym (le-leb k s.released below)
    | no above ↦
        lt-leb (release system (job task k)) (length past) (omega (arith, kept.next_release, kept.next, release_order system task (s.released + 1) k (omega arith)))
        ∙ sym (lt-leb k s.released (omega arith))
  ]

  unfinished_is : (k : ℕ) → 1 ≤ k → not (is_finished system past (job task k)) ≡ nat_lt s.finished k
  unfinished_is k low = ap not (finished_is system past (now + 1) task s kept k low) ∙ grind (arith, nat_tests)

  pending_is : (k : ℕ) → 1 ≤ k → is_pending system past (job task k) ≡ (nat_le k s.released && nat_lt s.finished k)
  pending_is k low =
      ap (λ (b : Bool). b && not (is_finished system past (job task k))) (released_is k low)
      ∙ ap (λ (b : Bool). nat_le k s.released && b) (unfinished_is k low)

  one_more : (best : Option Job) (m : ℕ) (b : Bool) → is_pending system past (job task (suc m)) ≡ b
      → fold (sooner system) best (filter (is_pending system past) (job task (suc m) ∷ [])) ≡ (if b then sooner system best (job task (suc m)) else best)
  one_more best m true e = ap (λ (t : Bool). fold (sooner system) best (cond t (job task (suc m) ∷ []) [])) e
  one_more best m false e = ap (λ (t : Bool). fold (sooner system) best (cond t (job task (suc m) ∷ []) [])) e

  by_order : (best : Option Job) (m : ℕ)
      → (if nat_le (suc m) s.released && nat_lt s.finished (suc m) then sooner system (offered system best task m s) (job task (suc m)) else offered system best task m s) ≡ offered system best task (suc m) s
  by_order best m = elim (dec_le (suc m) s.released) [
    | yes released ↦ elim (dec_le m s.finished) [
      | yes first ↦ elim (dec_le s.finished m) [
        | yes this ↦
            let same : s.finished ≡ m = omega arith in
            let test : (nat_le (suc m) s.released && nat_lt s.finished (suc m)) ≡ true = grind (arith, nat_tests) in
            let none : (nat_lt s.finished m && nat_lt s.finished s.released) ≡ false = grind (arith, nat_tests) in
            let some : (nat_lt s.finished (suc m) && nat_lt s.finished s.released) ≡ true = grind (arith, nat_tests) in
            ap (λ (b : Bool). if b then sooner system (offered system best task m s) (job task (suc m)) else offered system best task m s) test
            ∙ ap (λ (b : Bool). sooner system (if b then sooner system best (job task (s.finished + 1)) else best) (job task (suc m))) none
            ∙ ap (λ (n : ℕ). sooner system best (job task n)) (omega arith)
            ∙ ap (λ (b : Bool). if b then sooner system best (job task (s.finished + 1)) else best) (sym some)
        | no later ↦
            let test : (nat_le (suc m) s.released && nat_lt s.finished (suc m)) ≡ false = grind (arith, nat_tests) in
            let same : (nat_lt s.finished m && nat_lt s.finished s.released) ≡ (nat_lt s.finished (suc m) && nat_lt s.finished s.released) = grind (arith, nat_tests) in
            ap (λ (b : Bool). if b then sooner system (offered system best task m s) (job task (suc m)) else offered system best task m s) test
            ∙ ap (λ (b : Bool). if b then sooner system best (job task (s.finished + 1)) else best) same
      ]
      | no before ↦
          let test : (nat_le (suc m) s.released && nat_lt s.finished (suc m)) ≡ true = grind (arith, nat_tests) in
          let had : (nat_lt s.finished m && nat_lt s.finished s.released) ≡ true = grind (arith, nat_tests) in
          let some : (nat_lt s.finished (suc m) && nat_lt s.finished s.released) ≡ true = grind (arith, nat_tests) in
          ap (λ (b : Bool). if b then sooner system (offered system best task m s) (job task (suc m)) else offered system best task m s) test
          ∙ ap (λ (b : Bool). sooner system (if b then sooner system best (job task (s.finished + 1)) else best) (job task (suc m))) had
          ∙ keeps system task (s.finished + 1) (suc m) best (omega arith)
          ∙ ap (λ (b : Bool). if b then sooner system best (job task (s.finished + 1)) else best) (sym some)
    ]
    | no unreleased ↦
        let test : (nat_le (suc m) s.released && nat_lt s.finished (suc m)) ≡ false = grind (arith, nat_tests) in
        let same : (nat_lt s.finished m && nat_lt s.finished s.released) ≡ (nat_lt s.finished (suc m) && nat_lt s.finished s.released) = grind (arith, nat_tests) in
        ap (λ (b : Bool). if b then sooner system (offered system best task m s) (job task (suc m)) else offered system best task m s) test
        ∙ ap (λ (b : Bool). if b then sooner system best (job task (s.finished + 1)) else best) same
  ]

  offers : (best : Option Job) (m : ℕ) → fold (sooner system) best (filter (is_pending system past) (jobs_of task m)) ≡ offered system best task m s
  offers best zero =
      let none : false ≡ (nat_lt s.finished 0 && nat_lt s.finished s.released) = grind (arith, nat_tests) in
      ap (λ (b : Bool). if b then sooner system best (job task (s.finished + 1)) else best) none
  offers best (suc m) =
      ap (fold (sooner system) best) (filter-append (is_pending system past) (jobs_of task m) (job task (suc m) ∷ []))
      ∙ fold-append (sooner system) best (filter (is_pending system past) (jobs_of task m)) (filter (is_pending system past) (job task (suc m) ∷ []))
      ∙ ap (λ (b : Option Job). fold (sooner system) b (filter (is_pending system past) (job task (suc m) ∷ []))) (offers best m)
      ∙ one_more (offered system best task m s) m (nat_le (suc m) s.released && nat_lt s.finished (suc m)) (pending_is (suc m) (omega arith))
      ∙ by_order best m

  -- what a task offers
  pub offer_is : IsValid system → task < length system.tasks → (best : Option Job) → fold (sooner system) best (filter (is_pending system past) (jobs_of task (now + 1))) ≡ offer system best task s
  offer_is valid known best =
      let same : (nat_lt s.finished (now + 1) && nat_lt s.finished s.released) ≡ nat_lt s.finished s.released = grind (arith, nat_tests, released_bound system past (now + 1) task s kept valid known) in
      offers best (now + 1) ∙ ap (λ (b : Bool). if b then sooner system best (job task (s.finished + 1)) else best) same

-- the choice among the first tasks
chosen_of : (system : System) (past : List Slot) (now : ℕ) (states : List State) → AreStates system past (now + 1) states → length past ≡ now → (tasks : ℕ) → tasks ≤ length system.tasks
    → fold (sooner system) None (filter (is_pending system past) (flat_map (λ (t : ℕ). jobs_of t (now + 1)) (numbers tasks))) ≡ best_of system tasks states
chosen_of system past now states kept length_is zero h = refl
chosen_of system past now states kept length_is (suc tasks) h =
    let before = flat_map (λ (t : ℕ). jobs_of t (now + 1)) (numbers tasks) in
    ap (λ (js : List Job). fold (sooner system) None (filter (is_pending system past) js))
    (flat_map-append (λ (t : ℕ). jobs_of t (now + 1)) (numbers tasks) (tasks ∷ []) ∙ ap (λ (js : List Job). before ++ js) (append-nil (jobs_of tasks (now + 1))))
    ∙ ap (fold (sooner system) None) (filter-append (is_pending system past) before (jobs_of tasks (now + 1)))
    ∙ fold-append (sooner system) None (filter (is_pending system past) before) (filter (is_pending system past) (jobs_of tasks (now + 1)))
    ∙ ap (λ (b : Option Job). fold (sooner system) b (filter (is_pending system past) (jobs_of tasks (now + 1)))) (chosen_of system past now states kept length_is tasks (omega arith))
    ∙ offer_is system past now tasks (state_at states tasks) (kept.each tasks (omega arith)) length_is kept.valid (omega arith) (best_of system tasks states)

-- the next slot goes to the soonest of the jobs that the tasks offer
pub chosen_is : (system : System) (now : ℕ) (states : List State) → AreStates system (slots system now) (now + 1) states → chosen system (slots system now) ≡ best_of system (length system.tasks) states
chosen_is system now states kept =
    ap (λ (n : ℕ). fold (sooner system) None (filter (is_pending system (slots system now)) (flat_map (λ (t : ℕ). jobs_of t (n + 1)) (numbers (length system.tasks))))) (slots_count system now)
    ∙ chosen_of system (slots system now) now states kept (slots_count system now) (length system.tasks) (omega arith)

-- the sooner of two jobs is one of them
sooner_one : (system : System) (P : Job → Type 0) (best : Option Job) (j : Job) → ForSome best P → P j → ForSome (sooner system best j) P
sooner_one system P None j known new = λ x e. subst (λ (o : Option Job). ForSome o P) e (λ y f. subst P (some_same j y f) new) x refl
sooner_one system P (Some best) j known new = by_test (is_below (key system j) (key system best))
  where
    by_test : (b : Bool) → ForSome (if b then Some j else Some best) P
    by_test true = λ x e. subst P (some_same j x e) new
    by_test false = known

pub best_offered : (system : System) (states : List State) (tasks : ℕ) → tasks ≤ length states → ForSome (best_of system tasks states) (IsOffered states)
best_offered system states zero h = λ x e. absurd (none_not x e)
best_offered system states (suc tasks) h =
    by_test (nat_lt (state_at states tasks).finished (state_at states tasks).released) refl (best_offered system states tasks (omega arith))
  where
    by_test : (b : Bool) → nat_lt (state_at states tasks).finished (state_at states tasks).released ≡ b → ForSome (best_of system tasks states) (IsOffered states)
        → ForSome (if b then sooner system (best_of system tasks states) (job tasks ((state_at states tasks).finished + 1)) else best_of system tasks states) (IsOffered states)
    by_test true e before = sooner_one system (IsOffered states) (best_of system tasks states) (job tasks ((state_at states tasks).finished + 1)) before
        (record { task = omega arith; released = grind (arith, nat_tests); number = refl })
    by_test false e before = before

-- so it is one that can be asked for
pub best_known : (system : System) (states : List State) (tasks : ℕ) → AreOffers system states → tasks ≤ length states → ForSome (best_of system tasks states) (IsJob system)
best_known system states tasks kept h = λ x e.
    let o = best_offered system states tasks h x e in record {
      task = omega (arith, o.task, kept.count);
      number = (omega (arith, o.number), omega (arith, o.number, o.released, kept.few x.task (omega (arith, o.task, kept.count))));
    }

pub offers_from : (system : System) (past : List Slot) (now : ℕ) (states : List State) → AreStates system past (now + 1) states → now < 2 ^ 40 → AreOffers system states
offers_from system past now states kept early = record {
  valid = kept.valid;
  count = kept.count;
  few = λ task known. omega (arith, released_bound system past (now + 1) task (state_at states task) (kept.each task known) kept.valid known);
}
