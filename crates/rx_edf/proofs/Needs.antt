-- What is due in times that are a cycle apart, and how late a time can fail.
use Rattle.std.proofs.Common.{ℕ, zero, suc, ◌≡◌, ◌≤◌, ◌<◌, ◌+◌, ◌-◌, ◌*◌, ◌/◌, if◌then◌else◌, Bool, List, length, min, inl, inr, sym, ◌∙◌, ap, arith, subst}
use Rattle.std.proofs.Math.Nat.{div-mul_cancel, div-mul-le_self, add-mul-div_right, div-eq_of_lt, mul-le-mul_left}
use Rattle.std.proofs.Math.Decide.{dec_le}
use Rattle.std.proofs.lemmas.Bool.Decides.{eqb_tells}
use Rattle.std.proofs.lemmas.Nat.{le-div}
use Rattle.std.specs.Int.{◌∣◌}
use Rattle.rx_set.specs.Admission.{total, due_jobs}
use Rattle.rx_set.proofs.Totals.{total_up, total_same, total_zero, total_plus, total_times}
use Rattle.rx_edf.specs.declared.charged_tasks.ChargedTask.{ChargedTask}
use Rattle.rx_edf.specs.ChargedTasks.{IsChargedTask, AreChargedTasks, charged_task_at, work_of_task, work_of, weighted_shortening_of_task, weighted_shortening_of, need_of_task, need_in}
use Rattle.rx_edf.specs.Verdicts.{last_by}

-- a cycle of some charged: each period divides it
pub record IsCycle (charged : List ChargedTask) (cycle : ℕ) : Type 0 where
  pub some : 1 ≤ cycle
  pub divided : (place : ℕ) → place < length charged → (charged_task_at charged place).period ∣ cycle

-- of one task
jobs_later : (t period deadline cycle : ℕ) → 1 ≤ period → deadline ≤ period → period ∣ cycle → due_jobs (t + cycle) period deadline ≡ due_jobs t period deadline + cycle / period
jobs_later t period deadline cycle some short whole =
    let e : cycle / period * period ≡ cycle = div-mul_cancel period whole in
    let split : t + cycle + period - deadline ≡ (t + period - deadline) + cycle / period * period = omega (arith, e, short) in
    ap (λ (n : ℕ). n / period) split ∙ add-mul-div_right (t + period - deadline) (cycle / period) (omega (arith, some))

pub jobs_none : (t period deadline : ℕ) → t < deadline → deadline ≤ period → due_jobs t period deadline ≡ 0
jobs_none t period deadline early short = div-eq_of_lt {n = t + period - deadline} {m = period} (omega (arith, early, short))

product : (c j q : ℕ) → (j + q) * c ≡ j * c + c * q
product c j q = grind arith

-- what is due a cycle later is the work of the cycle more
pub need_later : (charged : List ChargedTask) (t cycle : ℕ) → AreChargedTasks charged → IsCycle charged cycle → need_in charged (t + cycle) ≡ need_in charged t + work_of charged cycle
need_later charged t cycle are whole =
    total_same (λ k. need_of_task (t + cycle) (charged_task_at charged k)) (λ k. need_of_task t (charged_task_at charged k) + work_of_task cycle (charged_task_at charged k)) (length charged)
    (λ k h.
    let task : ChargedTask = charged_task_at charged k in
    let is : IsChargedTask task = are.each k h in
    ap (λ (n : ℕ). n * task.cost) (jobs_later t task.period task.deadline cycle is.period.0 is.deadline.1 (whole.divided k h))
    ∙ product task.cost (due_jobs t task.period task.deadline) (cycle / task.period))
    ∙ total_plus (λ k. need_of_task t (charged_task_at charged k)) (λ k. work_of_task cycle (charged_task_at charged k)) (length charged)

pub need_none : (charged : List ChargedTask) → AreChargedTasks charged → need_in charged 0 ≡ 0
need_none charged are =
    total_zero (λ k. need_of_task 0 (charged_task_at charged k)) (length charged)
    (λ k h.
    let task : ChargedTask = charged_task_at charged k in
    let is : IsChargedTask task = are.each k h in
    ap (λ (n : ℕ). n * task.cost) (jobs_none 0 task.period task.deadline (omega (arith, is.deadline.0)) is.deadline.1) ∙ nothing task.cost)
  where
    nothing : (n : ℕ) → 0 * n ≡ 0
    nothing n = omega arith

pub need_cycle : (charged : List ChargedTask) (cycle : ℕ) → AreChargedTasks charged → IsCycle charged cycle → need_in charged cycle ≡ work_of charged cycle
need_cycle charged cycle are whole =
    let same : 0 + cycle ≡ cycle = omega arith in
    let here : need_in charged cycle ≡ need_in charged 0 + work_of charged cycle = subst (λ (n : ℕ). need_in charged n ≡ need_in charged 0 + work_of charged cycle) same (need_later charged 0 cycle are whole) in
    omega (arith, here, need_none charged are)

-- of one task, as rationals
weigh : (t p d q c j cycle : ℕ) → d ≤ p → q * p ≡ cycle → j * p ≤ t + p - d → cycle * (j * c) ≤ t * (c * q) + (p - d) * q * c
weigh t p d q c j cycle short whole few =
    let more : c * q * (j * p) ≤ c * q * (t + (p - d)) = mul-le-mul_left (c * q) (omega (arith, few, short)) in
    let left : cycle * (j * c) ≡ c * q * (j * p) = ap (λ n. n * (j * c)) (sym whole) ∙ turned q p j c in
    let right : c * q * (t + (p - d)) ≡ t * (c * q) + (p - d) * q * c = spread (c * q) t (p - d) ∙ ap (λ n. t * (c * q) + n) (turn (p - d) q c) in
    omega (arith, more, left, right)
  where
    turned : (q p j c : ℕ) → q * p * (j * c) ≡ c * q * (j * p)
    turned q p j c = grind arith

    spread : (x t y : ℕ) → x * (t + y) ≡ t * x + y * x
    spread x t y = grind arith

    turn : (y q c : ℕ) → y * (c * q) ≡ y * q * c
    turn y q c = grind arith

pub need_weighed : (charged : List ChargedTask) (t cycle : ℕ) → AreChargedTasks charged → IsCycle charged cycle → cycle * need_in charged t ≤ t * work_of charged cycle + weighted_shortening_of charged cycle
need_weighed charged t cycle are whole =
    let n : ℕ = length charged in
    let need : ℕ → ℕ = λ k. need_of_task t (charged_task_at charged k) in
    let work : ℕ → ℕ = λ k. work_of_task cycle (charged_task_at charged k) in
    let weighted : ℕ → ℕ = λ k. weighted_shortening_of_task cycle (charged_task_at charged k) in
    let each : total (λ k. cycle * need k) n ≤ total (λ k. t * work k + weighted k) n = total_up (λ k. cycle * need k) (λ k. t * work k + weighted k) n
    (λ k h.
    let task : ChargedTask = charged_task_at charged k in
    let is : IsChargedTask task = are.each k h in
    weigh t task.period task.deadline (cycle / task.period) task.cost (due_jobs t task.period task.deadline) cycle is.deadline.1 (div-mul_cancel task.period (whole.divided k h))
    (div-mul-le_self (t + task.period - task.deadline) task.period)) in
    omega (arith, each, total_times cycle need n, total_plus (λ k. t * work k) weighted n, total_times t work n)

-- a time that fails is early
pub fails_early : (charged : List ChargedTask) (t cycle : ℕ) → AreChargedTasks charged → IsCycle charged cycle → work_of charged cycle ≤ cycle → t < need_in charged t
    → t * (cycle - work_of charged cycle) + cycle ≤ weighted_shortening_of charged cycle
fails_early charged t cycle are whole fits fail =
    let work : ℕ = work_of charged cycle in
    let more : cycle * (t + 1) ≤ cycle * need_in charged t = mul-le-mul_left cycle (omega (arith, fail)) in
    let parts : cycle * (t + 1) ≡ t * (cycle - work) + t * work + cycle = split cycle work t fits in
    omega (arith, more, parts, need_weighed charged t cycle are whole)
  where
    join : (spare work t : ℕ) → (spare + work) * (t + 1) ≡ t * spare + t * work + (spare + work)
    join spare work t = grind arith

    split : (cycle work t : ℕ) → work ≤ cycle → cycle * (t + 1) ≡ t * (cycle - work) + t * work + cycle
    split cycle work t h =
        let e : (cycle - work) + work ≡ cycle = omega (arith, h) in
        subst (λ (n : ℕ). n * (t + 1) ≡ t * (cycle - work) + t * work + n) e (join (cycle - work) work t)

-- and if one fails, one fails in the first cycle
pub fails_within : (charged : List ChargedTask) (cycle fuel t : ℕ) → AreChargedTasks charged → IsCycle charged cycle → work_of charged cycle ≤ cycle → t ≤ fuel → t < need_in charged t
    → (u : ℕ) × (1 ≤ u) × (u ≤ cycle) × (u < need_in charged u)
fails_within charged cycle zero t are whole fits small fail =
    let none : t ≡ 0 = omega (arith, small) in
    absurd (omega (arith, need_none charged are, subst (λ (n : ℕ). n < need_in charged n) none fail))
fails_within charged cycle (suc fuel) t are whole fits small fail = elim (dec_le t cycle) [
  | yes near ↦ elim (dec_le 1 t) [
    | yes some ↦ (t, some, near, fail)
    | no none ↦
        let nothing : t ≡ 0 = omega (arith, none) in
        absurd (omega (arith, need_none charged are, subst (λ (n : ℕ). n < need_in charged n) nothing fail))
  ]
  | no far ↦
      let back : (t - cycle) + cycle ≡ t = omega (arith, far) in
      let same : need_in charged t ≡ need_in charged (t - cycle) + work_of charged cycle = ap (need_in charged) (sym back) ∙ need_later charged (t - cycle) cycle are whole in
      fails_within charged cycle fuel (t - cycle) are whole fits (omega (arith, small, whole.some, far)) (omega (arith, same, fail, fits, back))
]

-- and then one of at most the last time that has to be looked at
early_is_near : (cycle spare weighted u : ℕ) → 1 ≤ cycle → u ≤ cycle → u * spare + cycle ≤ weighted → u ≤ last_by cycle spare weighted
early_is_near cycle spare weighted u some near early = elim (eqb_tells spare 0) [
  | inl none ↦ subst (λ (b : Bool). u ≤ (if b then cycle else min cycle ((weighted - 1) / spare))) (sym none.0) near
  | inr more ↦
      let below : u ≤ (weighted - 1) / spare = le-div u (weighted - 1) spare (omega (arith, more.1)) (omega (arith, early, some)) in
      subst (λ (b : Bool). u ≤ (if b then cycle else min cycle ((weighted - 1) / spare))) (sym more.0) (omega (arith, near, below))
]

pub fails_near : (charged : List ChargedTask) (cycle t : ℕ) → AreChargedTasks charged → IsCycle charged cycle → work_of charged cycle ≤ cycle → t < need_in charged t
    → (u : ℕ) × (1 ≤ u) × (u ≤ last_by cycle (cycle - work_of charged cycle) (weighted_shortening_of charged cycle)) × (u < need_in charged u)
fails_near charged cycle t are whole fits fail =
    let found = fails_within charged cycle t t are whole fits (omega arith) fail in
    let u : ℕ = found.0 in
    (u, found.1, early_is_near cycle (cycle - work_of charged cycle) (weighted_shortening_of charged cycle) u whole.some found.2 (fails_early charged u cycle are whole fits found.3), found.3)
