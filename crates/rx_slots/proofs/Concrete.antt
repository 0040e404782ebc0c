-- Sets that meet the premises of the laws of windows, and one that shows what costs that are not kept do.
use Rattle.std.proofs.Common.{ℕ, zero, suc, ◌≡◌, ◌≤◌, ◌<◌, ◌+◌, ◌-◌, ◌*◌, ◌/◌, true, false, List, [], ◌∷◌, codes, Some, None, refl, ap, ◌≢◌, arith, subst, div-mul-le_self}
use Rattle.std.specs.List.{slice_get}
use Rattle.rx_seq.specs.declared.kinds.Kind.TheVariants.{Cell}
use Rattle.rx_seq.specs.declared.calls.Call.TheVariants.{Add}
use Rattle.rx_set.specs.declared.policies.Policy.{Policy}
use Rattle.rx_set.specs.declared.policies.Policy.TheVariants.{Rm, Edf}
use Rattle.rx_set.specs.declared.demands.Demand.{Demand}
use Rattle.rx_set.specs.declared.items.Item.{Item}
use Rattle.rx_set.specs.declared.items.Item.TheVariants.{Work, Op}
use Rattle.rx_set.specs.System.{System, ObjectRow, TaskRow, task_at}
use Rattle.rx_set.specs.Admission.{charge_of}
use Rattle.rx_set.proofs.Ranks.{rank_bound}
use Rattle.rx_slots.proofs.Choices.{who_pending}
use Rattle.rx_slots.proofs.Spoilers.{ranks_cover}
use Rattle.rx_set.specs.Valid.{IsValid, IsItem, IsTaskRow, IsObjectRow, IsDemandRow, IsJobOf, KeepsCosts}
use Rattle.rx_set.specs.Admission.{Serves, EachIsServed, due_need, EachSpanFits}
use Rattle.rx_ledger.specs.declared.events.Event.TheVariants.{Miss}
use Rattle.rx_slots.specs.Schedule.{job_in, slots}
use Rattle.rx_slots.specs.Events.{misses}
use Rattle.rx_slots.specs.Laws.{nth_job}
use Rattle.rx_slots.specs.Windows.{IsWindow, demand, charge}
use Rattle.rx_slots.proofs.Steps.{unfinished_before}
use Rattle.rx_slots.proofs.Served.{served_sets}
use Rattle.rx_slots.proofs.Earliest.{earliest_sets}

abbrev task_a : TaskRow
task_a = record { name = codes "a"; period = 10; deadline = 10; offset = 2; items = Op 0 (Add 1) ∷ [] }

abbrev task_b : ℕ → TaskRow
task_b deadline = record { name = codes "b"; period = 20; deadline = deadline; offset = 0; items = Work 1 ∷ Op 0 (Add 5) ∷ Work 1 ∷ [] }

abbrev cell : ObjectRow
cell = record { name = codes "c"; part = record { kind = Cell; cap = 1 } }

-- a short task and a long one add to one cell
abbrev pub two : Policy → ℕ → List Demand → System
two policy deadline demands = record { policy = policy; objects = cell ∷ []; tasks = task_a ∷ task_b deadline ∷ []; demands = demands }

item_is : (P : Item → Type 0) (a b : Item) → P a → Some a ≡ Some b → P b
item_is P a b h e = let same : a ≡ b = cc in subst P same h

no_item : (a : Item) → None ≡ Some a → ⊥
no_item a e = cc

row_is : (P : ObjectRow → Type 0) (a b : ObjectRow) → P a → Some a ≡ Some b → P b
row_is P a b h e = let same : a ≡ b = cc in subst P same h

no_row : (a : ObjectRow) → None ≡ Some a → ⊥
no_row a e = cc

no_demand_row : (a : Demand) → None ≡ Some a → ⊥
no_demand_row a e = cc

module _ (policy : Policy) (deadline : ℕ) where
  items_a : (demands : List Demand) (place : ℕ) (item : Item) → slice_get task_a.items place ≡ Some item → IsItem (two policy deadline demands) item
  items_a demands zero item e = item_is (IsItem (two policy deadline demands)) (Op 0 (Add 1)) item (omega arith, refl) e
  items_a demands (suc place) item e = absurd (no_item item e)

  items_b : (demands : List Demand) (place : ℕ) (item : Item) → slice_get (task_b deadline).items place ≡ Some item → IsItem (two policy deadline demands) item
  items_b demands zero item e = item_is (IsItem (two policy deadline demands)) (Work 1) item (omega arith, omega arith) e
  items_b demands (suc zero) item e = item_is (IsItem (two policy deadline demands)) (Op 0 (Add 5)) item (omega arith, refl) e
  items_b demands (suc (suc zero)) item e = item_is (IsItem (two policy deadline demands)) (Work 1) item (omega arith, omega arith) e
  items_b demands (suc (suc (suc place))) item e = absurd (no_item item e)

  tasks_good : (demands : List Demand) → 1 ≤ deadline → deadline ≤ 20 → (task : ℕ) → task < 2 → IsTaskRow (two policy deadline demands) (task_at (two policy deadline demands) task)
  tasks_good demands some few zero h = record {
    name = refl;
    period = (omega arith, omega arith);
    deadline = (omega arith, omega arith);
    offset = omega arith;
    some_items = (omega arith, omega arith);
    items = items_a demands;
  }
  tasks_good demands some few (suc zero) h = record {
    name = refl;
    period = (omega arith, omega arith);
    deadline = (some, few);
    offset = omega arith;
    some_items = (omega arith, omega arith);
    items = items_b demands;
  }
  tasks_good demands some few (suc (suc task)) h = absurd (omega (arith, h))

  objects_good : (demands : List Demand) (object : ℕ) (row : ObjectRow) → slice_get (two policy deadline demands).objects object ≡ Some row → IsObjectRow row
  objects_good demands zero row e = row_is IsObjectRow cell row (record { name = refl; part = refl }) e
  objects_good demands (suc object) row e = absurd (no_row row e)

  -- it is a valid set
  pub two_valid : 1 ≤ deadline → deadline ≤ 20 → IsValid (two policy deadline [])
  two_valid some few = record {
    some_tasks = (omega arith, omega arith);
    few_objects = omega arith;
    few_demands = omega arith;
    tasks = λ task known. tasks_good [] some few task (omega (arith, known));
    objects = objects_good [];
    demands = λ place row e. absurd (no_demand_row row e);
    task_names = refl;
    object_names = refl;
    one_demand = λ a b order within. absurd (omega (arith, within));
  }

  -- and keeps its costs
  pub two_keeps : KeepsCosts (two policy deadline [])
  two_keeps = record { each = λ place row stated e is. absurd (no_demand_row row e) }

-- 2 ticks serve the short task, and 8 the long one, which has a deadline of 20 or of 8
pub two_served : (deadline : ℕ) → 8 ≤ deadline → EachIsServed (two Rm deadline [])
two_served deadline long task known = by_task task (omega (arith, known))
  where
    by_task : (k : ℕ) → k < 2 → (t : ℕ) × Serves (two Rm deadline []) k t
    by_task zero h = (2, record { some = omega arith; in_time = omega arith; fits = omega arith })
    by_task (suc zero) h = (8, record { some = omega arith; in_time = long; fits = omega arith })
    by_task (suc (suc k)) h = absurd (omega (arith, h))

-- so it never misses a deadline
pub two_never_miss : (n : ℕ) → misses (two Rm 20 []) (slots (two Rm 20 []) n) ≡ []
two_never_miss n = served_sets (two Rm 20 []) n (two_valid Rm 20 (omega arith) (omega arith)) (two_keeps Rm 20) (λ e. not_edf e) (two_served 20 (omega arith))
  where
    not_edf : Rm ≡ Edf → ⊥
    not_edf e = cc

pub two_never_miss_soon : (n : ℕ) → misses (two Rm 8 []) (slots (two Rm 8 []) n) ≡ []
two_never_miss_soon n = served_sets (two Rm 8 []) n (two_valid Rm 8 (omega arith) (omega arith)) (two_keeps Rm 8) (λ e. not_edf e) (two_served 8 (omega arith))
  where
    not_edf : Rm ≡ Edf → ⊥
    not_edf e = cc

-- under earliest deadlines first its spans fit
pub two_fit : EachSpanFits (two Edf 20 [])
two_fit t some =
    let need : due_need (two Edf 20 []) t ≡ 0 + (t + 10 - 10) / 10 * (2 + 2) + (t + 20 - 20) / 20 * (4 + 0) = refl in
    let tens : (t + 10 - 10) / 10 * 10 ≤ t + 10 - 10 = div-mul-le_self (t + 10 - 10) 10 in
    let twenties : (t + 20 - 20) / 20 * 20 ≤ t + 20 - 20 = div-mul-le_self (t + 20 - 20) 20 in
    omega (arith, need, tens, twenties)

pub two_earliest_never_miss : (n : ℕ) → misses (two Edf 20 []) (slots (two Edf 20 []) n) ≡ []
two_earliest_never_miss n = earliest_sets (two Edf 20 []) n (two_valid Edf 20 (omega arith) (omega arith)) (two_keeps Edf 20) refl two_fit

-- a window of it: from 0 to 7 the first job of b is left, and it is one tick shorter than the bound
pub two_window : IsWindow (two Rm 20 []) (λ job. true) (charge_of (two Rm 20 []) 2) 0 7
two_window = record {
  busy = record {
    order = omega arith;
    closed = λ job other known there mine its. absurd (differ its);
    none = λ job mine left. absurd (omega (arith, left.released));
    some = λ n after until. (nth_job 1 1, refl, record { known = known; released = omega (arith, after); unfinished = unfinished_before (two Rm 20 []) (nth_job 1 1) n 7 until refl });
  };
  covers = λ job by n object at mine until e from first.
      ranks_cover (two Rm 20 []) (two_valid Rm 20 (omega arith) (omega arith)) not_edf 2 n object at job by (rank_bound (two Rm 20 []) job.task (who_pending (two Rm 20 []) n job (ap job_in e)).known.task).1 e first;
}
  where
    not_edf : Rm ≢ Edf
    not_edf e = cc

    differ : true ≡ false → ⊥
    differ e = cc

    known : IsJobOf (two Rm 20 []) (nth_job 1 1)
    known = record { task = omega arith; number = omega arith }

pub two_demand : demand (two Rm 20 []) (λ job. true) 0 7 ≡ 6
two_demand = refl

pub two_charge : charge (two Rm 20 []) (λ job. true) (charge_of (two Rm 20 []) 2) 0 7 ≡ 2
two_charge = refl

-- a job of b that demands one tick more than its item states
abbrev more_work : Demand
more_work = record { task = 1; job = 1; item = 3; ticks = 2 }

abbrev pub longer : System
longer = two Rm 8 (more_work ∷ [])

-- the set is valid but does not keep its costs, and it misses the deadline that it meets without that row
pub longer_valid : IsValid longer
longer_valid = record {
  some_tasks = (omega arith, omega arith);
  few_objects = omega arith;
  few_demands = omega arith;
  tasks = λ task known. tasks_good Rm 8 (more_work ∷ []) (omega arith) (omega arith) task (omega (arith, known));
  objects = objects_good Rm 8 (more_work ∷ []);
  demands = rows;
  task_names = refl;
  object_names = refl;
  one_demand = λ a b order within. absurd (omega (arith, order, within));
}
  where
    demand_is : (row : Demand) → Some more_work ≡ Some row → more_work ≡ row
    demand_is row e = cc

    good : IsDemandRow longer more_work
    good = record { task = omega arith; job = (omega arith, omega arith); item = omega arith; work = (1, refl); ticks = (omega arith, omega arith) }

    rows : (place : ℕ) (row : Demand) → slice_get (more_work ∷ []) place ≡ Some row → IsDemandRow longer row
    rows zero row e = subst (IsDemandRow longer) (demand_is row e) good
    rows (suc place) row e = absurd (no_demand_row row e)

pub longer_keeps_not : ¬ KeepsCosts longer
longer_keeps_not keeps = let most : 2 ≤ 1 = keeps.each 0 more_work 1 refl refl in absurd (omega (arith, most))

pub longer_misses : misses longer (slots longer 8) ≡ Miss 8 (nth_job 1 1) ∷ []
longer_misses = refl
