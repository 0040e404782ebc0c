-- The preemption that a retry is charged to.
use Rattle.std.proofs.Common.{ℕ, zero, suc, ◌≡◌, ◌≢◌, ◌≤◌, ◌<◌, ◌+◌, ◌-◌, ◌==◌, ◌⊎◌, inl, inr, Bool, true, false, if◌then◌else◌, length, Option, Some, None, refl, sym, ◌∙◌, ap, arith, subst}
use Rattle.std.proofs.Math.Decide.{dec_le}
use Rattle.std.proofs.lemmas.Bool.{false≢true}
use Rattle.std.proofs.lemmas.Bool.Decides.{nat_tests}
use Rattle.rx_seq.specs.declared.entries.Entry.{Entry}
use Rattle.rx_set.specs.declared.jobs.Job.{Job}
use Rattle.rx_set.specs.System.{System}
use Rattle.rx_set.specs.Valid.{IsValid}
use Rattle.rx_slots.specs.Schedule.{Busy, Decide, Progress, completed, lost, ticked, job_in, wins_on, slots, slot_at}
use Rattle.rx_slots.specs.Laws.{who, so_far, finished_before, IsPendingAt, IsPreemption, IsSpoiled}
use Rattle.rx_slots.specs.Charges.{IsHeld, IsFirstPreemption}
use Rattle.rx_slots.proofs.Lists.{some_same}
use Rattle.rx_slots.proofs.Prefixes.{slots_count}
use Rattle.rx_slots.proofs.Choices.{who_pending, not_idle}
use Rattle.rx_slots.proofs.Steps.{IsEither, Own, Other, either, after_rule, slot_rule, lost_after, unfinished_before}
use Rattle.rx_slots.proofs.Shares.{cost_some}
use Rattle.rx_slots.proofs.Attempts.{IsBegun, held, decision_is, lost_spoiled}

-- how a job stands where it has an attempt or work in hand since a slot
abbrev pub HoldsFrom : ℕ → Progress → Type 0
HoldsFrom first p = (1 ≤ p.made) × (p.first ≡ first)

held_as : (system : System) (n : ℕ) (job : Job) (first : ℕ) → HoldsFrom first (so_far system job n) → IsHeld system n job first
held_as system n job first h = record { some = h.0; begins = h.1 }

holds_from : (system : System) (n : ℕ) (job : Job) (first : ℕ) → IsHeld system n job first → HoldsFrom first (so_far system job n)
holds_from system n job first h = (h.some, h.begins)

-- what is in hand after one more tick, and was begun before it, was in hand
before_tick : (m first : ℕ) (p : Progress) → first < m → HoldsFrom first (ticked m p) → HoldsFrom first p
before_tick m first p early = by_test (p.made == 0) refl
  where
    by_test : (b : Bool) → (p.made == 0) ≡ b → HoldsFrom first (record { complete = p.complete; made = p.made + 1; first = if b then m else p.first }) → HoldsFrom first p
    by_test true e h = let at = h.1 in absurd (omega arith)
    by_test false e h = let some : 1 ≤ p.made = grind (arith, nat_tests) in (some, h.1)

no_hold : (first : ℕ) (p : Progress) → p.made ≡ 0 → HoldsFrom first p → ⊥
no_hold first p none h = let some = h.0 in omega arith

-- what is in hand after a slot, and was begun before it, was in hand before it
hold_back : (system : System) (n : ℕ) (job : Job) (first : ℕ) → first < n → HoldsFrom first (so_far system job (suc n)) → HoldsFrom first (so_far system job n)
hold_back system n job first early =
    let p = so_far system job n in
    after_rule (λ (q : Progress). HoldsFrom first q → HoldsFrom first p) system job (length (slots system n)) (slot_at system n) p
    (λ h. h)
    (before_tick (length (slots system n)) first p (omega (arith, slots_count system n)))
    (λ h. absurd (no_hold first (lost p) refl h))
    (λ h. absurd (no_hold first (completed p) refl h))

hold_before : (system : System) (job : Job) (first m more : ℕ) → first < m → HoldsFrom first (so_far system job (more + m)) → HoldsFrom first (so_far system job m)
hold_before system job first m zero early h = let same_time : 0 + m ≡ m = omega arith in subst (λ (k : ℕ). HoldsFrom first (so_far system job k)) same_time h
hold_before system job first m (suc more) early h =
    let same_time : suc more + m ≡ suc (more + m) = omega arith in
    hold_before system job first m more early
    (hold_back system (more + m) job first (omega arith) (subst (λ (k : ℕ). HoldsFrom first (so_far system job k)) same_time h))

-- what is in hand was so in each slot since the one after its first
pub held_at : (system : System) (job : Job) (first m n : ℕ) → first < m → m ≤ n → IsHeld system n job first → IsHeld system m job first
held_at system job first m n early late h =
    let same_time : n ≡ n - m + m = omega arith in
    held_as system m job first (hold_before system job first m (n - m) early (subst (λ (k : ℕ). HoldsFrom first (so_far system job k)) same_time (holds_from system n job first h)))

-- it was begun in its first slot
pub held_begun : (system : System) (job : Job) (first n : ℕ) → IsHeld system n job first → (first < n) × (slot_at system first ≡ Busy job)
held_begun system job first n h =
    let begun : IsBegun system job n (so_far system job n) = held system job n h.some in
    (subst (λ (k : ℕ). k < n) h.begins begun.before, ap (slot_at system) (sym h.begins) ∙ begun.begins)

-- an attempt that is decided was in hand
pub held_decided : (system : System) (n : ℕ) (job : Job) (object : ℕ) (outcome : Option Entry) → slot_at system n ≡ Decide job object outcome → IsHeld system n job (so_far system job n).first
held_decided system n job object outcome e = record { some = omega (arith, (decision_is system n job object outcome e).made, cost_some system object); begins = refl }

-- the slot in which an attempt of a job wins leaves it nothing in hand
pub winner_ends : (system : System) (n object : ℕ) (job : Job) → who system n ≡ Some job → wins_on object (slot_at system n) ≡ true → (so_far system job (suc n)).made ≡ 0
winner_ends system n object job mine wins =
    slot_rule (λ (p : Progress). p.made ≡ 0) system n job (λ other none. absurd (other mine)) (λ own is some. absurd (false≢true (ap (wins_on object) (sym is) ∙ wins))) (λ own. refl) (λ own. refl)

-- from a slot of the job's to one that is not, there is a last one up to which all are the job's
pub record IsGap (system : System) (job : Job) (first n : ℕ) : Type 0 where
  pub last : ℕ
  pub from : first ≤ last
  pub until : last < n
  pub own : (k : ℕ) → first ≤ k → k ≤ last → who system k ≡ Some job
  pub ends : who system (suc last) ≢ Some job

is_owner : (system : System) (n : ℕ) (job : Job) → (who system n ≡ Some job) ⊎ (who system n ≢ Some job)
is_owner system n job = by_owner (either system n job)
  where
    by_owner : IsEither system n job → (who system n ≡ Some job) ⊎ (who system n ≢ Some job)
    by_owner (Own mine own) = inl mine
    by_owner (Other not_mine other) = inr not_mine

pub first_gap : (system : System) (job : Job) (more first : ℕ) → who system first ≡ Some job → who system (more + first) ≢ Some job → IsGap system job first (more + first)
first_gap system job zero first mine other =
    let same_time : first ≡ 0 + first = omega arith in absurd (other (subst (λ (k : ℕ). who system k ≡ Some job) same_time mine))
first_gap system job (suc more) first mine other = elim (is_owner system (suc first) job) [
  | inl next ↦ later (first_gap system job more (suc first) next (subst (λ (k : ℕ). who system k ≢ Some job) same_time other))
  | inr next ↦ record { last = first; from = omega arith; until = omega arith; own = λ k low high. at_first k low high; ends = next }
]
  where
    same_time : suc more + first ≡ more + suc first
    same_time = omega arith

    at_first : (k : ℕ) → first ≤ k → k ≤ first → who system k ≡ Some job
    at_first k low high = let here : first ≡ k = omega arith in subst (λ (m : ℕ). who system m ≡ Some job) here mine

    later : IsGap system job (suc first) (more + suc first) → IsGap system job first (suc more + first)
    later gap = record {
      last = gap.last;
      from = omega (arith, gap.from);
      until = omega (arith, gap.until);
      own = λ k low high. elim (dec_le (suc first) k) [ yes after ↦ gap.own k after high | no here ↦ at_first k low (omega arith) ];
      ends = gap.ends;
    }

-- a job that is unfinished after its slot, and has not the next one, is preempted there
pub preempted_next : (system : System) (n : ℕ) (job : Job) → IsValid system → who system n ≡ Some job → finished_before system job (suc n) ≡ false → who system (suc n) ≢ Some job
    → (by : Job) × IsPreemption system (suc n) job by
preempted_next system n job valid had unfinished other = by_owner (who system (suc n)) refl
  where
    pending : IsPendingAt system (suc n) job
    pending = let was = who_pending system n job had in record { known = was.known; released = omega (arith, was.released); unfinished = unfinished }

    by_owner : (o : Option Job) → who system (suc n) ≡ o → (by : Job) × IsPreemption system (suc n) job by
    by_owner None e = absurd (not_idle system (suc n) job valid pending e)
    by_owner (Some by) e = (
      by,
      record { before = n; follows = refl; had = had; unfinished = unfinished; has = e; other = λ f. other (e ∙ ap Some (sym f)) },
    )

-- where another attempt on the object won, and raised its tag, since the first slot of what an unfinished job has in hand, the job was preempted in between
pub preempted_since : (system : System) (n : ℕ) (job : Job) (first object : ℕ) → IsValid system → IsHeld system n job first → finished_before system job n ≡ false → IsSpoiled system object first n
    → (at : ℕ) × (by : Job) × (at < n) × IsFirstPreemption system first at job by × IsHeld system at job first
preempted_since system n job first object valid has unfinished spoiled = by_gap (first_gap system job (spoiled.at - first) first mine other)
  where
    mine : who system first ≡ Some job
    mine = ap job_in (held_begun system job first n has).1

    same_time : spoiled.at - first + first ≡ spoiled.at
    same_time = let after = spoiled.after in omega arith

    not_own : who system spoiled.at ≢ Some job
    not_own e =
        let later : IsHeld system (suc spoiled.at) job first = held_at system job first (suc spoiled.at) n (omega (arith, spoiled.after)) spoiled.before has in
        let none : (so_far system job (suc spoiled.at)).made ≡ 0 = winner_ends system spoiled.at object job e spoiled.wins in
        absurd (omega (arith, later.some))

    other : who system (spoiled.at - first + first) ≢ Some job
    other = subst (λ (k : ℕ). who system k ≢ Some job) (sym same_time) not_own

    by_gap : IsGap system job first (spoiled.at - first + first) → (at : ℕ) × (by : Job) × (at < n) × IsFirstPreemption system first at job by × IsHeld system at job first
    by_gap gap =
        let early : suc gap.last ≤ n = omega (arith, gap.until, same_time, spoiled.before) in
        let taken = preempted_next system gap.last job valid (gap.own gap.last gap.from (omega arith)) (unfinished_before system job (suc gap.last) n early unfinished) gap.ends in (
          suc gap.last,
          taken.0,
          omega (arith, gap.until, same_time, spoiled.before),
          record { after = omega (arith, gap.from); own = λ k low high. gap.own k low (omega arith); preempts = taken.1 },
          held_at system job first (suc gap.last) n (omega (arith, gap.from)) early has,
        )

pub charge_found : (system : System) (n object : ℕ) (job : Job) → IsValid system → slot_at system n ≡ Decide job object None
    → (at : ℕ) × (by : Job) × (at < n) × IsFirstPreemption system (so_far system job n).first at job by × IsHeld system at job (so_far system job n).first
charge_found system n object job valid e =
    preempted_since system n job (so_far system job n).first object valid (held_decided system n job object None e)
    (who_pending system n job (ap job_in e)).unfinished (lost_spoiled system n job object None e refl)

-- an attempt that is lost leaves its job nothing in hand
loser_ends : (system : System) (n object : ℕ) (job : Job) → slot_at system n ≡ Decide job object None → (so_far system job (suc n)).made ≡ 0
loser_ends system n object job e = ap (λ (p : Progress). p.made) (lost_after system (slots system n) job (slot_at system n) object e)

-- of two retries of one attempt the later is no other
not_later : (system : System) (m n at object : ℕ) (job : Job) (first : ℕ) → slot_at system m ≡ Decide job object None → first < at → at < m → IsHeld system n job first → m < n → ⊥
not_later system m n at object job first e after early has later =
    let after_it : IsHeld system (suc m) job first = held_at system job first (suc m) n (omega arith) (omega arith) has in
    let none : (so_far system job (suc m)).made ≡ 0 = loser_ends system m object job e in
    omega (arith, after_it.some)

same_before : (system : System) (at : ℕ) (job other by next : Job) → IsPreemption system at job by → IsPreemption system at other next → job ≡ other
same_before system at job other by next h g =
    let same_time : h.before ≡ g.before = omega (arith, h.follows, g.follows) in
    some_same job other (sym h.had ∙ ap (who system) same_time ∙ g.had)

once_for_one : (system : System) (m n at x y : ℕ) (job : Job) → slot_at system m ≡ Decide job x None → slot_at system n ≡ Decide job y None → at < m → at < n
    → (so_far system job m).first < at → IsHeld system at job (so_far system job m).first → IsHeld system at job (so_far system job n).first → m ≡ n
once_for_one system m n at x y job e f before_m before_n after here there =
    elim (dec_le m n) [
      | no above ↦ absurd (not_later system n m at y job (so_far system job m).first f after before_n held_m (omega arith))
      | yes below ↦ elim (dec_le n m) [
        | yes above ↦ omega arith
        | no apart ↦ absurd (not_later system m n at x job (so_far system job m).first e after before_m (subst (IsHeld system n job) (sym same_first) held_n) (omega arith))
      ]
    ]
  where
    same_first : (so_far system job m).first ≡ (so_far system job n).first
    same_first = sym here.begins ∙ there.begins

    held_m : IsHeld system m job (so_far system job m).first
    held_m = held_decided system m job x None e

    held_n : IsHeld system n job (so_far system job n).first
    held_n = held_decided system n job y None f

pub charge_once : (system : System) (m n at x y : ℕ) (job other by next : Job) → IsValid system → slot_at system m ≡ Decide job x None → slot_at system n ≡ Decide other y None → at < m → at < n
    → IsFirstPreemption system (so_far system job m).first at job by → IsHeld system at job (so_far system job m).first
    → IsFirstPreemption system (so_far system other n).first at other next → IsHeld system at other (so_far system other n).first → m ≡ n
charge_once system m n at x y job other by next valid e f before_m before_n first here last there =
    let one : job ≡ other = same_before system at job other by next first.preempts last.preempts in
    once_for_one system m n at x y job e (f ∙ ap (λ (j : Job). Decide j y None) (sym one)) before_m before_n first.after here
    (subst (λ (j : Job). IsHeld system at j (so_far system j n).first) (sym one) there)

-- the retry of a slot is charged to the preemption in another
pub record IsCharged (system : System) (n at : ℕ) : Type 0 where
  pub job : Job
  pub object : ℕ
  pub by : Job
  pub slot : slot_at system n ≡ Decide job object None
  pub below : at < n
  pub first : IsFirstPreemption system (so_far system job n).first at job by
  pub held : IsHeld system at job (so_far system job n).first

pub charged_once : (system : System) (m n at : ℕ) → IsValid system → IsCharged system m at → IsCharged system n at → m ≡ n
charged_once system m n at valid h g =
    charge_once system m n at h.object g.object h.job g.job h.by g.by valid h.slot g.slot h.below g.below h.first h.held g.first g.held
