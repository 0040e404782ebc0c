-- Needs grow with t.
use Rattle.std.proofs.Common.{ℕ, zero, suc, ◌≤◌, ◌+◌, ◌-◌, ◌*◌, Bool, true, false, if◌then◌else◌, nat_le, nat_lt, length, arith}
use Rattle.std.proofs.Math.Nat.{div-zero, div-mul-le_self}
use Rattle.std.proofs.lemmas.Nat.{le-div, mul-le}
use Rattle.rx_set.specs.System.{System, cost, rank, task_at}
use Rattle.rx_set.specs.Admission.{ceiling, charge_of, charge_to, cost_to, need, total}
use Rattle.rx_set.proofs.Totals.{total_up}

pub ceiling_up : (t u period : ℕ) → t ≤ u → ceiling t period ≤ ceiling u period
ceiling_up t u zero h = omega (arith, div-zero (t + 0 - 1), div-zero (u + 0 - 1))
ceiling_up t u (suc p) h =
    le-div (ceiling t (suc p)) (u + suc p - 1) (suc p) (omega arith) (omega (arith, h, div-mul-le_self (t + suc p - 1) (suc p)))

if_up : (b : Bool) (m n : ℕ) → m ≤ n → (if b then m else 0) ≤ (if b then n else 0)
if_up true m n h = h
if_up false m n h = omega arith

pub need_up : (system : System) (place t u : ℕ) → t ≤ u → need system place t ≤ need system place u
need_up system place t u h =
    let n : ℕ = length system.tasks in
    let period : ℕ → ℕ = λ k. (task_at system k).period in
    let costs = total_up (cost_to system place t) (cost_to system place u) n
    (λ k b. if_up (nat_le (rank system k) place) (ceiling t (period k) * cost system k) (ceiling u (period k) * cost system k)
    (mul-le (ceiling t (period k)) (cost system k) (ceiling u (period k)) (cost system k) (ceiling_up t u (period k) h) (omega arith))) in
    let charges = total_up (charge_to system (charge_of system place) place t) (charge_to system (charge_of system place) place u) n
    (λ k b. if_up (nat_lt (rank system k) place) (ceiling (t - 1) (period k) * charge_of system place k) (ceiling (u - 1) (period k) * charge_of system place k)
    (mul-le (ceiling (t - 1) (period k)) (charge_of system place k) (ceiling (u - 1) (period k)) (charge_of system place k) (ceiling_up (t - 1) (u - 1) (period k) (omega (arith, h))) (omega arith))) in
    omega (arith, costs, charges)
