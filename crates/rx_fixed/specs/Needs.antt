-- What is read of each task, and what the tasks need by it.
use Rattle.std.specs.Prelude.{ℕ, ◌≡◌, ◌+◌, ◌-◌, ◌*◌, ◌≤◌, nat_le, nat_lt, if◌then◌else◌, List, length, map, sum_by, get_or}
use Rattle.rx_set.specs.System.{System, cost, numbers, rank, task_at}
use Rattle.rx_set.specs.Charges.{charge, where_passed}
use Rattle.rx_set.specs.Admission.{ceiling}
use Rattle.rx_fixed.specs.declared.needs.Row.{Row}

-- what the code reads of a task: its rank, its period and its stated cost
abbrev pub row_of : System → ℕ → Row
row_of system task = record { rank = rank system task; period = (task_at system task).period; cost = cost system task }

-- the same of each task, in file order
abbrev pub rows_of : System → List Row
rows_of system = map (row_of system) (numbers (length system.tasks))

-- what the releases of the task of each rank are charged where the tasks up to a rank are looked at
abbrev pub AreCharges : System → ℕ → List ℕ → Type 0
AreCharges system place charges = (by : ℕ) → 1 ≤ by → by ≤ 64 → get_or charges by 0 ≡ charge system place by

-- what a task's jobs need in t ticks, if its rank is at most a given one
abbrev pub row_cost : ℕ → ℕ → Row → ℕ
row_cost place t row = if nat_le row.rank place then ceiling t row.period * row.cost else 0

-- what its jobs that are released strictly inside t ticks are charged, if its rank is below a given one
abbrev pub row_charge : List ℕ → ℕ → ℕ → Row → ℕ
row_charge charges place t row = where_passed (nat_lt row.rank place) (ceiling (t - 1) row.period * get_or charges row.rank 0)

-- what all these rows need in t ticks
abbrev pub needed : List Row → List ℕ → ℕ → ℕ → ℕ
needed rows charges place t = sum_by (row_cost place t) rows + sum_by (row_charge charges place t) rows

-- a row of a valid set: its rank is from 1 to 64, its period from 1 to 1,000,000, and its cost at most 64,000,000
pub record IsRow (row : Row) : Type 0 where
  pub rank : (1 ≤ row.rank) × (row.rank ≤ 64)
  pub period : (1 ≤ row.period) × (row.period ≤ 1000000)
  pub cost : row.cost ≤ 64000000
