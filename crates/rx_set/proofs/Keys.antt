-- Keys: their order, and the keys of jobs.
use Rattle.std.proofs.Common.{ℕ, ◌≡◌, ◌≤◌, ◌<◌, ◌≢◌, ◌⊎◌, inl, inr, true, false, length, ap, ◌∙◌, arith}
use Rattle.std.proofs.lemmas.Bool.Decides.{nat_tests}
use Rattle.rx_set.specs.declared.policies.Policy.{Policy}
use Rattle.rx_set.specs.declared.policies.Policy.TheVariants.{Rm, Dm, Edf}
use Rattle.rx_set.specs.declared.jobs.Job.{Job}
use Rattle.rx_set.specs.declared.jobs.Key.{Key}
use Rattle.rx_set.specs.System.{System, key, key_by, is_below, due, rank}
use Rattle.rx_set.proofs.Releases.{due_order}
use Rattle.rx_set.proofs.Ranks.{bool_cases, rank_same}

-- `is_below` is a strict total order
pub below_not : (a : Key) → is_below a a ≡ false
below_not a = grind (arith, nat_tests)

pub below_trans : (a b c : Key) → is_below a b ≡ true → is_below b c ≡ true → is_below a c ≡ true
below_trans a b c h g = grind (arith, nat_tests)

pub below_swap : (a b : Key) → is_below a b ≡ true → is_below b a ≡ false
below_swap a b h = grind (arith, nat_tests)

key_same : (a b : Key) → a.first ≡ b.first → a.second ≡ b.second → a.third ≡ b.third → a ≡ b
key_same a b firsts seconds thirds =
    let one : ℕ → Key = λ x. record { first = x; second = a.second; third = a.third } in
    let two : ℕ → Key = λ x. record { first = b.first; second = x; third = a.third } in
    let three : ℕ → Key = λ x. record { first = b.first; second = b.second; third = x } in
    ap one firsts ∙ ap two seconds ∙ ap three thirds

job_same : (a b : Job) → a.task ≡ b.task → a.number ≡ b.number → a ≡ b
job_same a b tasks numbers =
    let one : ℕ → Job = λ x. record { task = x; number = a.number } in
    let two : ℕ → Job = λ x. record { task = b.task; number = x } in
    ap one tasks ∙ ap two numbers

-- neither is below the other
pub below_same : (a b : Key) → is_below a b ≡ false → is_below b a ≡ false → a ≡ b
below_same a b h g =
    let firsts : a.first ≡ b.first = grind (arith, nat_tests) in
    let seconds : a.second ≡ b.second = grind (arith, nat_tests) in
    let thirds : a.third ≡ b.third = grind (arith, nat_tests) in
    key_same a b firsts seconds thirds

pub below_either : (a b : Key) → a ≢ b → (is_below a b ≡ true) ⊎ (is_below b a ≡ true)
below_either a b differ =
    elim (bool_cases (is_below a b)) [
      | inl lower ↦ inl lower
      | inr first ↦ elim (bool_cases (is_below b a)) [ inl lower ↦ inr lower | inr second ↦ absurd (differ (below_same a b first second)) ]
    ]

by_number : (first second k m : ℕ) → k < m → (is_below (record { first = first; second = second; third = k }) (record { first = first; second = second; third = m })) ≡ true
by_number first second k m h = grind (arith, nat_tests)

by_due : (first later second k m : ℕ) → first ≤ later → k < m → (is_below (record { first = first; second = second; third = k }) (record { first = later; second = second; third = m })) ≡ true
by_due first later second k m h g = grind (arith, nat_tests)

key_order_by : (policy : Policy) (system : System) (task k m : ℕ) → k < m
    → is_below (key_by policy system (record { task = task; number = k })) (key_by policy system (record { task = task; number = m })) ≡ true
key_order_by Rm system task k m h = by_number (rank system task) 0 k m h
key_order_by Dm system task k m h = by_number (rank system task) 0 k m h
key_order_by Edf system task k m h =
    by_due (due system (record { task = task; number = k })) (due system (record { task = task; number = m })) task k m (due_order system task k m (omega arith)) h

-- of two jobs of a task the later has the higher key
pub key_order : (system : System) (task k m : ℕ) → k < m
    → is_below (key system (record { task = task; number = k })) (key system (record { task = task; number = m })) ≡ true
key_order system task k m h = key_order_by system.policy system task k m h

keys_same_by : (policy : Policy) (system : System) (a b : Job) → a.task < length system.tasks → b.task < length system.tasks → key_by policy system a ≡ key_by policy system b → a ≡ b
keys_same_by Rm system a b known_a known_b h =
    let firsts : rank system a.task ≡ rank system b.task = ap (λ (x : Key). x.first) h in
    job_same a b (rank_same system a.task b.task known_a known_b firsts) (ap (λ (x : Key). x.third) h)
keys_same_by Dm system a b known_a known_b h =
    let firsts : rank system a.task ≡ rank system b.task = ap (λ (x : Key). x.first) h in
    job_same a b (rank_same system a.task b.task known_a known_b firsts) (ap (λ (x : Key). x.third) h)
keys_same_by Edf system a b known_a known_b h = job_same a b (ap (λ (x : Key). x.second) h) (ap (λ (x : Key). x.third) h)

-- no two jobs have one key
pub keys_same : (system : System) (a b : Job) → a.task < length system.tasks → b.task < length system.tasks → key system a ≡ key system b → a ≡ b
keys_same system a b known_a known_b h = keys_same_by system.policy system a b known_a known_b h

-- two jobs of which neither key is below the other are one
pub jobs_same : (system : System) (a b : Job) → a.task < length system.tasks → b.task < length system.tasks
    → is_below (key system a) (key system b) ≡ false → is_below (key system b) (key system a) ≡ false → a ≡ b
jobs_same system a b known_a known_b h g = keys_same system a b known_a known_b (below_same (key system a) (key system b) h g)
