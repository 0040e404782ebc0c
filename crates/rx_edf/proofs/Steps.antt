-- A walk over the times at which jobs are due, in rising order.
use Rattle.std.proofs.Common.{ℕ, ◌≡◌, ◌≤◌, ◌<◌, ◌≢◌, ◌+◌, ◌-◌, ◌*◌, ◌/◌, ◌%◌, ◌^◌, nat_lt, List, length, Some, None, inl, inr, sym, ◌∙◌, ap, arith, subst}
use Rattle.std.proofs.Math.Nat.{mul-div_cancel, div-mul-le_self, mul-le-mul_right}
use Rattle.std.proofs.Math.Decide.{dec_le}
use Rattle.std.proofs.lemmas.Bool.Decides.{nat_tests, eqb_tells}
use Rattle.std.proofs.lemmas.Nat.{div_below, le-div}
use Rattle.rx_set.specs.Admission.{total, first_to, due_jobs}
use Rattle.rx_set.proofs.Totals.{total_up, total_zero}
use Rattle.rx_set.proofs.Firsts.{first_found, first_missing}
use Rattle.rx_tree.specs.declared.trees.TheConstants.{LEAVES}
use Rattle.rx_tree.specs.Trees.{IsLeast, key_at}
use Rattle.rx_edf.specs.declared.charged_tasks.ChargedTask.{ChargedTask}
use Rattle.rx_edf.specs.ChargedTasks.{IsChargedTask, AreChargedTasks, charged_task_at, need_of_task, need_in}
use Rattle.rx_edf.proofs.Totals.{total_extra, total_moved}

-- a task's key, and how many of its jobs have been taken: those are due by the time of each key
pub record IsNext (task : ChargedTask) (keys : List ℕ) (place : ℕ) : Type 0 where
  pub count : ℕ
  pub is : key_at keys place ≡ LEAVES * (task.deadline + count * task.period) + place
  pub taken : (leaf : ℕ) → leaf < LEAVES → count ≤ due_jobs (key_at keys leaf / LEAVES) task.period task.deadline

-- how many jobs have been taken, by the key
abbrev pub taken_by : ChargedTask → ℕ → ℕ
taken_by task key = (key / LEAVES - task.deadline) / task.period

-- what these are charged with
abbrev pub taken_at : List ChargedTask → List ℕ → ℕ → ℕ
taken_at charged keys place = taken_by (charged_task_at charged place) (key_at keys place) * (charged_task_at charged place).cost

-- a time is before that of each key
abbrev pub IsBefore : List ℕ → ℕ → Type 0
IsBefore keys t = (leaf : ℕ) → leaf < LEAVES → t < key_at keys leaf / LEAVES

-- where the walk stands: each time before those of all keys has been looked at, and does not fail
pub record IsWalk (charged : List ChargedTask) (keys : List ℕ) (need last : ℕ) : Type 0 where
  pub nexts : (place : ℕ) → place < length charged → IsNext (charged_task_at charged place) keys place
  pub rest : (place : ℕ) → length charged ≤ place → place < LEAVES → key_at keys place ≡ 2 ^ 64 - 1
  pub sum : need ≡ total (taken_at charged keys) (length charged)
  pub low : need ≤ last
  pub before : (t : ℕ) → IsBefore keys t → need_in charged t ≤ t

-- of one task
taken_is : (task : ChargedTask) (keys : List ℕ) (place : ℕ) → 1 ≤ task.period → place < LEAVES → (next : IsNext task keys place) → taken_by task (key_at keys place) ≡ next.count
taken_is task keys place some inside next =
    let time : key_at keys place / LEAVES ≡ task.deadline + next.count * task.period = omega (arith, next.is, inside) in
    let rest : key_at keys place / LEAVES - task.deadline ≡ next.count * task.period = omega (arith, time) in
    ap (λ (n : ℕ). n / task.period) rest ∙ mul-div_cancel next.count (omega (arith, some))

few_due : (t period deadline count : ℕ) → 1 ≤ period → deadline ≤ period → t < deadline + count * period → due_jobs t period deadline ≤ count
few_due t period deadline count some short early =
    let more : (count + 1) * period ≡ count * period + period = grind arith in
    let below : (t + period - deadline) / period < count + 1 = div_below (t + period - deadline) period (count + 1) (omega (arith, some)) (omega (arith, more, early, short)) in
    omega (arith, below)

many_due : (t period deadline count : ℕ) → 1 ≤ period → deadline ≤ period → deadline + count * period ≤ t → count + 1 ≤ due_jobs t period deadline
many_due t period deadline count some short late =
    let more : (count + 1) * period ≡ count * period + period = grind arith in
    le-div (count + 1) (t + period - deadline) period (omega (arith, some)) (omega (arith, more, late, short))

due_up : (s t period deadline : ℕ) → 1 ≤ period → s ≤ t → due_jobs s period deadline ≤ due_jobs t period deadline
due_up s t period deadline some up = le-div (due_jobs s period deadline) (t + period - deadline) period (omega (arith, some)) (omega (arith, up, div-mul-le_self (s + period - deadline) period))

-- no more is due in a time before those of all keys than has been taken
pub due_before : (charged : List ChargedTask) (keys : List ℕ) (t : ℕ) → AreChargedTasks charged
    → ((place : ℕ) → place < length charged → IsNext (charged_task_at charged place) keys place)
    → IsBefore keys t → need_in charged t ≤ total (taken_at charged keys) (length charged)
due_before charged keys t are nexts early =
    total_up (λ k. need_of_task t (charged_task_at charged k)) (taken_at charged keys) (length charged)
    (λ k h.
    let task : ChargedTask = charged_task_at charged k in
    let valid : IsChargedTask task = are.each k h in
    let next : IsNext task keys k = nexts k h in
    let inside : k < LEAVES = omega (arith, h, are.few) in
    let time : t < task.deadline + next.count * task.period = omega (arith, early k inside, next.is, inside) in
    let same : taken_by task (key_at keys k) ≡ next.count = taken_is task keys k valid.period.0 inside next in
    mul-le-mul_right task.cost (omega (arith, same, few_due t task.period task.deadline next.count valid.period.0 valid.deadline.1 time)))

-- the task of the least key
pub record IsDueFirst (charged : List ChargedTask) (keys : List ℕ) (key place : ℕ) : Type 0 where
  pub known : place < length charged
  pub at : key_at keys place ≡ key
  pub named : key % LEAVES ≡ place

pub due_first : (charged : List ChargedTask) (keys : List ℕ) (key need last : ℕ) → IsWalk charged keys need last → IsLeast keys key → key / LEAVES ≤ last → last < 2 ^ 40 → IsDueFirst charged keys key (key % LEAVES)
due_first charged keys key need last walk least within near =
    let leaf : ℕ = least.found.0 in
    elim (dec_le (length charged) leaf) [
      | yes beyond ↦ absurd (omega (arith, least.found.2, walk.rest leaf beyond least.found.1, within, near))
      | no inside ↦
          let known : leaf < length charged = omega (arith, inside) in
          let next = walk.nexts leaf known in
          let named : key % LEAVES ≡ leaf = omega (arith, least.found.1, least.found.2, next.is) in
          subst (λ (k : ℕ). IsDueFirst charged keys key k) (sym named) (record { known = known; at = least.found.2; named = named })
    ]

-- what is taken of a task is due by the time of the least key
taken_now : (task : ChargedTask) (keys : List ℕ) (key place : ℕ) → IsLeast keys key → (next : IsNext task keys place) → next.count ≤ due_jobs (key / LEAVES) task.period task.deadline
taken_now task keys key place least next =
    subst (λ (n : ℕ). next.count ≤ due_jobs (n / LEAVES) task.period task.deadline) least.found.2 (next.taken least.found.0 least.found.1)

-- and so is the job of the least key
job_now : (charged : List ChargedTask) (keys : List ℕ) (key place : ℕ) → AreChargedTasks charged → IsDueFirst charged keys key place → (next : IsNext (charged_task_at charged place) keys place)
    → next.count + 1 ≤ due_jobs (key / LEAVES) (charged_task_at charged place).period (charged_task_at charged place).deadline
job_now charged keys key place are first next =
    let here : ChargedTask = charged_task_at charged place in
    let valid : IsChargedTask here = are.each place first.known in
    let time : here.deadline + next.count * here.period ≤ key / LEAVES = omega (arith, next.is, first.at, first.known, are.few) in
    many_due (key / LEAVES) here.period here.deadline next.count valid.period.0 valid.deadline.1 time

-- what is taken with that job too is due by then
need_now : (charged : List ChargedTask) (keys : List ℕ) (key need last place : ℕ) → AreChargedTasks charged → IsWalk charged keys need last → IsLeast keys key → IsDueFirst charged keys key place
    → need + (charged_task_at charged place).cost ≤ need_in charged (key / LEAVES)
need_now charged keys key need last place are walk least first =
    let now : ℕ = key / LEAVES in
    let here : ChargedTask = charged_task_at charged place in
    let f : ℕ → ℕ = taken_at charged keys in
    let g : ℕ → ℕ = λ k. need_of_task now (charged_task_at charged k) in
    let up : (k : ℕ) → k < length charged → f k ≤ g k = λ k h.
    let task : ChargedTask = charged_task_at charged k in
    let next : IsNext task keys k = walk.nexts k h in
    let same : taken_by task (key_at keys k) ≡ next.count = taken_is task keys k (are.each k h).period.0 (omega (arith, h, are.few)) next in
    mul-le-mul_right task.cost (omega (arith, same, taken_now task keys key k least next))
    in
    let next : IsNext here keys place = walk.nexts place first.known in
    let same : taken_by here (key_at keys place) ≡ next.count = taken_is here keys place (are.each place first.known).period.0 (omega (arith, first.known, are.few)) next in
    let scaled : (next.count + 1) * here.cost ≤ due_jobs now here.period here.deadline * here.cost = mul-le-mul_right here.cost (job_now charged keys key place are first next) in
    let more : (next.count + 1) * here.cost ≡ next.count * here.cost + here.cost = one_more next.count here.cost in
    let at : f place ≡ next.count * here.cost = ap (λ (n : ℕ). n * here.cost) same in
    let all : total f (length charged) + here.cost ≤ total g (length charged) = total_extra f g place (length charged) here.cost up first.known (omega (arith, scaled, more, at)) in
    omega (arith, all, walk.sum)
  where
    one_more : (n c : ℕ) → (n + 1) * c ≡ n * c + c
    one_more n c = grind arith

-- a time before the least key's has been looked at
looked_at : (charged : List ChargedTask) (keys : List ℕ) (key need last t : ℕ) → IsWalk charged keys need last → IsLeast keys key → t < key / LEAVES → need_in charged t ≤ t
looked_at charged keys key need last t walk least early = walk.before t (λ leaf inside. omega (arith, least.least leaf inside, early))

-- the least key's time is the first that fails, if what is taken by then does not fit into it
pub now_fails : (charged : List ChargedTask) (keys : List ℕ) (key need last place : ℕ) → AreChargedTasks charged → IsWalk charged keys need last → IsLeast keys key → IsDueFirst charged keys key place
    → key / LEAVES ≤ last → key / LEAVES < need + (charged_task_at charged place).cost → first_to (λ t. nat_lt t (need_in charged t)) last ≡ Some (key / LEAVES)
now_fails charged keys key need last place are walk least first within fail =
    let now : ℕ = key / LEAVES in
    let next = walk.nexts place first.known in
    let due = need_now charged keys key need last place are walk least first in
    let much : now < need_in charged now = omega (arith, fail, due) in
    first_found (λ t. nat_lt t (need_in charged t)) last now
    (record {
      some = omega (arith, next.is, first.at, first.known, are.few, (are.each place first.known).deadline.0);
      within = within;
      passes = grind (arith, nat_tests);
      least = λ k some less. let fits : need_in charged k ≤ k = looked_at charged keys key need last k walk least less in grind (arith, nat_tests);
    })

-- and none fails, if the least key's time is past the last one
pub none_fails : (charged : List ChargedTask) (keys : List ℕ) (key need last : ℕ) → IsWalk charged keys need last → IsLeast keys key → last < key / LEAVES → first_to (λ t. nat_lt t (need_in charged t)) last ≡ None
none_fails charged keys key need last walk least past =
    first_missing (λ t. nat_lt t (need_in charged t)) last
    (λ k some within. let fits : need_in charged k ≤ k = looked_at charged keys key need last k walk least (omega (arith, within, past)) in grind (arith, nat_tests))

-- the keys as they are at the start
pub walk_begins : (charged : List ChargedTask) (keys : List ℕ) (last : ℕ) → AreChargedTasks charged
    → ((place : ℕ) → place < length charged → key_at keys place ≡ LEAVES * (charged_task_at charged place).deadline + place)
    → ((place : ℕ) → length charged ≤ place → place < LEAVES → key_at keys place ≡ 2 ^ 64 - 1)
    → IsWalk charged keys 0 last
walk_begins charged keys last are is rest =
    let nexts : (place : ℕ) → place < length charged → IsNext (charged_task_at charged place) keys place = λ place h.
    record { count = 0; is = first (charged_task_at charged place) place (key_at keys place) (is place h); taken = λ leaf inside. omega arith }
    in
    let none : total (taken_at charged keys) (length charged) ≡ 0 = total_zero (taken_at charged keys) (length charged)
    (λ k h.
    let task : ChargedTask = charged_task_at charged k in
    ap (λ (n : ℕ). n * task.cost) (taken_is task keys k (are.each k h).period.0 (omega (arith, h, are.few)) (nexts k h)) ∙ nothing task.cost) in
    record {
      nexts = nexts;
      rest = rest;
      sum = sym none;
      low = omega arith;
      before = λ t early. omega (arith, due_before charged keys t are nexts early, none);
    }
  where
    nothing : (n : ℕ) → 0 * n ≡ 0
    nothing n = omega arith

    first : (task : ChargedTask) (place key : ℕ) → key ≡ LEAVES * task.deadline + place → key ≡ LEAVES * (task.deadline + 0 * task.period) + place
    first task place key e = omega (arith, e, nothing task.period)

-- the keys after the job of the least one is taken
pub record IsTaken (charged : List ChargedTask) (keys after : List ℕ) (key place : ℕ) : Type 0 where
  pub here : key_at after place ≡ key + LEAVES * (charged_task_at charged place).period
  pub others : (other : ℕ) → other ≢ place → key_at after other ≡ key_at keys other

-- none of them is below the one that was the least
keys_up : (charged : List ChargedTask) (keys after : List ℕ) (key place leaf : ℕ) → IsLeast keys key → IsTaken charged keys after key place → leaf < LEAVES → key ≤ key_at after leaf
keys_up charged keys after key place leaf least taken inside = elim (eqb_tells leaf place) [
  | inl same ↦
      let at : key_at after leaf ≡ key_at after place = ap (key_at after) same.1 in
      omega (arith, at, taken.here)
  | inr apart ↦ omega (arith, taken.others leaf apart.1, least.least leaf inside)
]

pub walk_goes_on : (charged : List ChargedTask) (keys after : List ℕ) (key need last place : ℕ) → AreChargedTasks charged → IsWalk charged keys need last → IsLeast keys key → IsDueFirst charged keys key place
    → IsTaken charged keys after key place → key / LEAVES ≤ last → need + (charged_task_at charged place).cost ≤ key / LEAVES → IsWalk charged after (need + (charged_task_at charged place).cost) last
walk_goes_on charged keys after key need last place are walk least first taken within fits =
    let now : ℕ = key / LEAVES in
    let later : (leaf : ℕ) → leaf < LEAVES → now ≤ key_at after leaf / LEAVES = λ leaf inside. omega (arith, keys_up charged keys after key place leaf least taken inside) in
    let here : ChargedTask = charged_task_at charged place in
    let valid : IsChargedTask here = are.each place first.known in
    let inside : place < LEAVES = omega (arith, first.known, are.few) in
    let old : IsNext here keys place = walk.nexts place first.known in
    let next : IsNext here after place = record {
      count = old.count + 1;
      is = moved here.deadline old.count here.period place (key_at after place) (omega (arith, taken.here, old.is, first.at));
      taken = λ leaf h. omega (arith, job_now charged keys key place are first old, due_up now (key_at after leaf / LEAVES) here.period here.deadline valid.period.0 (later leaf h));
    } in
    let nexts : (k : ℕ) → k < length charged → IsNext (charged_task_at charged k) after k = λ k h. elim (eqb_tells k place) [
      | inl same ↦ subst (λ (j : ℕ). IsNext (charged_task_at charged j) after j) (sym same.1) next
      | inr apart ↦
          let task : ChargedTask = charged_task_at charged k in
          let before : IsNext task keys k = walk.nexts k h in
          record {
            count = before.count;
            is = taken.others k apart.1 ∙ before.is;
            taken = λ leaf i. omega (arith, taken_now task keys key k least before, due_up now (key_at after leaf / LEAVES) task.period task.deadline (are.each k h).period.0 (later leaf i));
          }
    ] in
    let one : taken_at charged after place ≡ taken_at charged keys place + here.cost =
    ap (λ (n : ℕ). n * here.cost) (taken_is here after place valid.period.0 inside next)
    ∙ one_more old.count here.cost
    ∙ ap (λ (n : ℕ). n * here.cost + here.cost) (sym (taken_is here keys place valid.period.0 inside old))
    in
    let sum : total (taken_at charged after) (length charged) ≡ total (taken_at charged keys) (length charged) + here.cost =
    total_moved (taken_at charged keys) (taken_at charged after) place (length charged) here.cost
    (λ k h apart. ap (λ (n : ℕ). taken_by (charged_task_at charged k) n * (charged_task_at charged k).cost) (taken.others k apart)) first.known one
    in
    record {
      nexts = nexts;
      rest = λ k beyond h. taken.others k (λ e. absurd (omega (arith, e, beyond, first.known))) ∙ walk.rest k beyond h;
      sum = omega (arith, sum, walk.sum);
      low = omega (arith, fits, within);
      before = λ t early. elim (dec_le now t) [
        | yes past ↦ omega (arith, due_before charged after t are nexts early, sum, walk.sum, fits, past)
        | no earlier ↦ looked_at charged keys key need last t walk least (omega (arith, earlier))
      ];
    }
  where
    one_more : (n c : ℕ) → (n + 1) * c ≡ n * c + c
    one_more n c = grind arith

    moved : (d n p place key : ℕ) → key ≡ LEAVES * (d + n * p) + place + LEAVES * p → key ≡ LEAVES * (d + (n + 1) * p) + place
    moved d n p place key e = omega (arith, e, one_more n p)
