-- The pending job of least key, among jobs of any number.
use Rattle.std.proofs.Common.{ℕ, zero, suc, ◌≡◌, ◌≤◌, ◌<◌, ◌+◌, ◌&&◌, ◌⊎◌, inl, inr, nat_le, not, Bool, true, false, cond, if◌then◌else◌, List, [], ◌∷◌, ◌++◌, length, filter, fold, Option, Some, None, refl, sym, ◌∙◌, ap, arith, subst, append-nil}
use Rattle.std.specs.List.{flat_map, All}
use Rattle.std.specs.Option.{ForSome}
use Rattle.std.proofs.Math.Decide.{dec_le}
use Rattle.std.proofs.lemmas.Bool.{le-leb, false≢true, leb-true}
use Rattle.std.proofs.lemmas.List.Elements.{All-nil, All-head, All-tail, All-append, All-push, All-same, All-filter, filter_passes}
use Rattle.std.proofs.lemmas.Grind.{flat_map-append}
use Rattle.rx_set.specs.declared.jobs.Job.{Job}
use Rattle.rx_set.specs.System.{System, key, is_below, release, numbers, item_at}
use Rattle.rx_set.specs.Valid.{IsValid, IsJobOf}
use Rattle.rx_set.proofs.Keys.{below_not, below_trans, jobs_same}
use Rattle.rx_set.proofs.Releases.{number_bound}
use Rattle.rx_set.specs.Operations.{Asked}
use Rattle.rx_slots.specs.Schedule.{Slot, Idle, Busy, Decide, job_in, sooner, chosen, is_pending, is_finished, jobs_of, all_jobs, progress, slots, slot_at, slot_of, tick_in, decides}
use Rattle.rx_slots.specs.Laws.{who, IsPendingAt, IsLeastAt}
use Rattle.rx_slots.proofs.Lists.{some_same, none_not}
use Rattle.rx_slots.proofs.Prefixes.{slots_count}

abbrev pub In : {X : Type 0} → X → List X → Type 0
In x [] = ⊥
In x (y ∷ ys) = (y ≡ x) ⊎ In x ys

in_left : {X : Type 0} (x : X) (ys zs : List X) → In x ys → In x (ys ++ zs)
in_left x [] zs h = elim h [ ]
in_left x (y ∷ ys) zs h = elim h [ inl here ↦ inl here | inr later ↦ inr (in_left x ys zs later) ]

in_right : {X : Type 0} (x : X) (ys zs : List X) → In x zs → In x (ys ++ zs)
in_right x [] zs h = h
in_right x (y ∷ ys) zs h = inr (in_right x ys zs h)

pub in_filter : {X : Type 0} (p : X → Bool) (x : X) (ys : List X) → p x ≡ true → In x ys → In x (filter p ys)
in_filter p x [] passes h = h
in_filter p x (y ∷ ys) passes h = elim h [
  | inl here ↦ subst (λ (b : Bool). In x (cond b (y ∷ filter p ys) (filter p ys))) (sym (ap p here ∙ passes)) (inl here)
  | inr later ↦ step (p y) (in_filter p x ys passes later)
]
  where
    step : (b : Bool) → In x (filter p ys) → In x (cond b (y ∷ filter p ys) (filter p ys))
    step true i = inr i
    step false i = i

in_numbers : (k n : ℕ) → k < n → In k (numbers n)
in_numbers k zero h = absurd (omega arith)
in_numbers k (suc n) h = elim (dec_le n k) [
  | yes last ↦ in_right k (numbers n) (n ∷ []) (inl (omega arith))
  | no before ↦ in_left k (numbers n) (n ∷ []) (in_numbers k n (omega arith))
]

in_jobs_of : (task k n : ℕ) → 1 ≤ k → k ≤ n → In (record { task = task; number = k }) (jobs_of task n)
in_jobs_of task k zero low high = absurd (omega arith)
in_jobs_of task k (suc n) low high = elim (dec_le k n) [
  | yes before ↦ in_left (record { task = task; number = k }) (jobs_of task n) (record { task = task; number = suc n } ∷ []) (in_jobs_of task k n low before)
  | no last ↦
      let same : suc n ≡ k = omega arith in
      let named : ℕ → Job = λ m. record { task = task; number = m } in
      in_right (record { task = task; number = k }) (jobs_of task n) (record { task = task; number = suc n } ∷ []) (inl (ap named same))
]

in_flat : (f : ℕ → List Job) (job : Job) (task : ℕ) (ts : List ℕ) → In task ts → In job (f task) → In job (flat_map f ts)
in_flat f job task [] h i = elim h [ ]
in_flat f job task (t ∷ ts) h i = elim h [
  | inl here ↦ in_left job (f t) (flat_map f ts) (subst (λ (k : ℕ). In job (f k)) (sym here) i)
  | inr later ↦ in_right job (f t) (flat_map f ts) (in_flat f job task ts later i)
]

-- each job that is released by n is among those that are looked at
pub in_all : (system : System) (n : ℕ) (job : Job) → IsValid system → IsJobOf system job → release system job ≤ n → In job (all_jobs system n)
in_all system n job valid known h =
    in_flat (λ (task : ℕ). jobs_of task (n + 1)) job job.task (numbers (length system.tasks))
    (in_numbers job.task (length system.tasks) known.task)
    (in_jobs_of job.task job.number (n + 1) known.number (number_bound system job n valid known.task h))

-- what is found is not above a job
record IsUpTo (system : System) (job : Job) (found : Option Job) : Type 0 where
  pub one : Job
  pub is : found ≡ Some one
  pub below : is_below (key system job) (key system one) ≡ false

up_to_sooner : (system : System) (job next : Job) (found : Option Job) → IsUpTo system job found → IsUpTo system job (sooner system found next)
up_to_sooner system job next found h = subst (λ (o : Option Job). IsUpTo system job (sooner system o next)) (sym h.is) (by_test (is_below (key system next) (key system h.one)) refl)
  where
    not_above : is_below (key system next) (key system h.one) ≡ true → (b : Bool) → is_below (key system job) (key system next) ≡ b → is_below (key system job) (key system next) ≡ false
    not_above lower true e = absurd (false≢true (sym h.below ∙ below_trans (key system job) (key system next) (key system h.one) e lower))
    not_above lower false e = e

    by_test : (b : Bool) → is_below (key system next) (key system h.one) ≡ b → IsUpTo system job (if b then Some next else Some h.one)
    by_test true e = record { one = next; is = refl; below = not_above e (is_below (key system job) (key system next)) refl }
    by_test false e = record { one = h.one; is = refl; below = h.below }

up_to_self : (system : System) (job : Job) (found : Option Job) → IsUpTo system job (sooner system found job)
up_to_self system job None = record { one = job; is = refl; below = below_not (key system job) }
up_to_self system job (Some one) = by_test (is_below (key system job) (key system one)) refl
  where
    by_test : (b : Bool) → is_below (key system job) (key system one) ≡ b → IsUpTo system job (if b then Some job else Some one)
    by_test true e = record { one = job; is = refl; below = below_not (key system job) }
    by_test false e = record { one = one; is = refl; below = e }

looked_at : (system : System) (job : Job) (found : Option Job) (js : List Job) → IsUpTo system job found → IsUpTo system job (fold (sooner system) found js)
looked_at system job found [] h = h
looked_at system job found (j ∷ js) h = looked_at system job (sooner system found j) js (up_to_sooner system job j found h)

least_in : (system : System) (job : Job) (found : Option Job) (js : List Job) → In job js → IsUpTo system job (fold (sooner system) found js)
least_in system job found [] h = elim h [ ]
least_in system job found (j ∷ js) h = elim h [
  | inl here ↦ looked_at system job (sooner system found j) js (subst (λ (k : Job). IsUpTo system job (sooner system found k)) (sym here) (up_to_self system job found))
  | inr later ↦ least_in system job (sooner system found j) js later
]

-- what is found is one of those that are looked at
least_from : (system : System) (P : Job → Type 0) (found : Option Job) (js : List Job) → ForSome found P → All P js → ForSome (fold (sooner system) found js) P
least_from system P found [] known all = known
least_from system P found (j ∷ js) known all = least_from system P (sooner system found j) js (one found known) (All-tail P j js all)
  where
    new : ForSome (Some j) P
    new = λ x e. subst P (some_same j x e) (All-head P j js all)

    by_test : (b : Bool) (best : Job) → ForSome (Some best) P → ForSome (if b then Some j else Some best) P
    by_test true best before = new
    by_test false best before = before

    one : (o : Option Job) → ForSome o P → ForSome (sooner system o j) P
    one None before = new
    one (Some best) before = by_test (is_below (key system j) (key system best)) best before

-- a job that is looked at
abbrev pub IsOf : ℕ → Job → Type 0
IsOf tasks job = (job.task < tasks) × (1 ≤ job.number)

jobs_known : (tasks task n : ℕ) → task < tasks → All (IsOf tasks) (jobs_of task n)
jobs_known tasks task zero known = All-nil (IsOf tasks)
jobs_known tasks task (suc n) known = All-push (IsOf tasks) (jobs_of task n) (record { task = task; number = suc n }) (jobs_known tasks task n known) (known, omega arith)

pub all_known : (tasks n m : ℕ) → m ≤ tasks → All (IsOf tasks) (flat_map (λ (task : ℕ). jobs_of task n) (numbers m))
all_known tasks n zero h = All-nil (IsOf tasks)
all_known tasks n (suc m) h =
    let before = flat_map (λ (task : ℕ). jobs_of task n) (numbers m) in
    All-same (IsOf tasks) (flat_map (λ (task : ℕ). jobs_of task n) (numbers (suc m))) (before ++ jobs_of m n)
    (flat_map-append (λ (task : ℕ). jobs_of task n) (numbers m) (m ∷ []) ∙ ap (λ (js : List Job). before ++ js) (append-nil (jobs_of m n)))
    (All-append (IsOf tasks) before (jobs_of m n) (all_known tasks n m (omega arith)) (jobs_known tasks m n (omega arith)))

-- whose a slot is
pub owner : (system : System) (past : List Slot) (found : Option Job) → job_in (slot_of system past found) ≡ found
owner system past None = refl
owner system past (Some job) = by_end (decides system (item_at system job (progress system job past).complete) (progress system job past).made)
  where
    by_end : (o : Option Asked) → job_in (tick_in system past job (progress system job past) o) ≡ Some job
    by_end None = refl
    by_end (Some asked) = refl

pub who_is : (system : System) (n : ℕ) → who system n ≡ chosen system (slots system n)
who_is system n = owner system (slots system n) (chosen system (slots system n))

pub both : (a b : Bool) → (a && b) ≡ true → (a ≡ true) × (b ≡ true)
both true true e = (refl, refl)
both true false e = absurd (false≢true e)
both false b e = absurd (false≢true e)

pub not_true : (b : Bool) → not b ≡ true → b ≡ false
not_true true e = absurd (false≢true e)
not_true false e = refl

-- the job of a slot is pending
pub who_pending : (system : System) (n : ℕ) (job : Job) → who system n ≡ Some job → IsPendingAt system n job
who_pending system n job h =
    let past : List Slot = slots system n in
    let found : chosen system past ≡ Some job = sym (who_is system n) ∙ h in
    let passes : is_pending system past job ≡ true = least_from system (λ (j : Job). is_pending system past j ≡ true) None (filter (is_pending system past) (all_jobs system (length past)))
    (λ x e. absurd (none_not x e)) (filter_passes (is_pending system past) (all_jobs system (length past))) job found in
    let known : IsOf (length system.tasks) job = least_from system (IsOf (length system.tasks)) None (filter (is_pending system past) (all_jobs system (length past)))
    (λ x e. absurd (none_not x e))
    (All-filter (is_pending system past) (IsOf (length system.tasks)) (all_jobs system (length past)) (all_known (length system.tasks) (length past + 1) (length system.tasks) (omega arith)))
    job found in
    let parts = both (nat_le (release system job) (length past)) (not (is_finished system past job)) passes in
    record {
      known = record { task = known.0; number = known.1 };
      released = omega (arith, leb-true (release system job) (length past) parts.0, slots_count system n);
      unfinished = not_true (is_finished system past job) parts.1;
    }

pending_passes : (system : System) (n : ℕ) (job : Job) → IsPendingAt system n job → is_pending system (slots system n) job ≡ true
pending_passes system n job pending =
    ap (λ (b : Bool). b && not (is_finished system (slots system n) job)) (le-leb (release system job) (length (slots system n)) (omega (arith, pending.released, slots_count system n)))
    ∙ ap not pending.unfinished

-- where a job is pending, the slot goes to one that is not above it
up_to_pending : (system : System) (n : ℕ) (job : Job) → IsValid system → IsPendingAt system n job → IsUpTo system job (who system n)
up_to_pending system n job valid pending =
    let past : List Slot = slots system n in
    subst (IsUpTo system job) (sym (who_is system n))
    (least_in system job None (filter (is_pending system past) (all_jobs system (length past)))
    (in_filter (is_pending system past) job (all_jobs system (length past)) (pending_passes system n job pending)
    (in_all system (length past) job valid pending.known (omega (arith, pending.released, slots_count system n)))))

pub not_idle : (system : System) (n : ℕ) (job : Job) → IsValid system → IsPendingAt system n job → who system n ≡ None → ⊥
not_idle system n job valid pending idle =
    let found = up_to_pending system n job valid pending in none_not found.one (sym idle ∙ found.is)

-- the job of a slot is the least of those that are pending
pub who_least : (system : System) (n : ℕ) (job : Job) → IsValid system → who system n ≡ Some job → IsLeastAt system n job
who_least system n job valid h = record {
  pending = who_pending system n job h;
  least = λ other pending.
      let found = up_to_pending system n other valid pending in
      let one : found.one ≡ job = some_same found.one job (sym found.is ∙ h) in
      subst (λ (j : Job). is_below (key system other) (key system j) ≡ false) one found.below;
}

pub least_who : (system : System) (n : ℕ) (job : Job) → IsValid system → IsLeastAt system n job → who system n ≡ Some job
least_who system n job valid h =
    let found = up_to_pending system n job valid h.pending in
    let other = who_pending system n found.one found.is in
    found.is ∙ ap Some (jobs_same system found.one job other.known.task h.pending.known.task (h.least found.one other) found.below)

pub idle_none : (slot : Slot) → job_in slot ≡ None → slot ≡ Idle
idle_none Idle e = refl
idle_none (Busy job) e = absurd (none_not job (sym e))
idle_none (Decide job object outcome) e = absurd (none_not job (sym e))

-- where no job is pending the slot is idle
pub idle_at : (system : System) (n : ℕ) → ((job : Job) → IsPendingAt system n job → ⊥) → slot_at system n ≡ Idle
idle_at system n none = idle_none (slot_at system n) (by_found (who system n) refl)
  where
    by_found : (o : Option Job) → who system n ≡ o → who system n ≡ None
    by_found None e = e
    by_found (Some job) e = absurd (none job (who_pending system n job e))
