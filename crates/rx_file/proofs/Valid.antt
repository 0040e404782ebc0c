-- Objects, tasks and demand rows that were read make a valid set.
use Rattle.std.proofs.Common.{◌≡◌, ◌≤◌, ◌<◌, ◌+◌, ℕ, true, false, List, [], ◌∷◌, ◌++◌, length, get_or, map, refl, arith, inl, inr, Option, Some, None}
use Rattle.std.proofs.lemmas.Bool.{cases_lt}
use Rattle.std.proofs.lemmas.Bool.Decides.{nat_tests}
use Rattle.std.proofs.lemmas.Grind.{common_steps}
use Rattle.std.proofs.lemmas.List.{map-append, get_or_append_left, get_or_push, get_or_past}
use Rattle.std.proofs.lemmas.List.Folds.{list_any_at}
use Rattle.std.proofs.lemmas.List.Elements.{All-push}
use Rattle.rx_set.specs.declared.policies.Policy.{Policy}
use Rattle.rx_set.specs.declared.demands.Demand.{Demand}
use Rattle.rx_set.specs.declared.items.Item.{Item}
use Rattle.rx_set.specs.declared.items.Item.TheVariants.{Work, Op}
use Rattle.rx_set.specs.System.{ObjectRow, TaskRow, no_task}
use Rattle.rx_set.specs.Valid.{IsValid, IsObjectRow, IsTaskRow, IsDemandRow, NameOneItem, NamesOnce, no_demand}
use Rattle.rx_set.proofs.Elements.{at_place}
use Rattle.rx_file.specs.Demands.{is_work, is_named, name_one_item}
use Rattle.rx_file.specs.Fields.{is_taken}
use Rattle.rx_file.specs.Gives.{alone, tasks_alone, AreRows, AreObjects, AreTasks, AreDemands, HaveBodies}
use Rattle.rx_file.proofs.Read.{repeat_next}

-- one more row
pub rows_next : {X : Type 0} (IsGood : X → Type 0) (name_of : X → List ℕ) (rows : List X) (row : X) → AreRows IsGood name_of rows
    → IsGood row → is_taken (map name_of rows) (name_of row) ≡ false → AreRows IsGood name_of (rows ++ row ∷ [])
rows_next IsGood name_of rows row before good new = record {
  good = All-push IsGood rows row before.good good;
  names = simp map-append (rw (repeat_next (map name_of rows) (name_of row), before.names, new) refl);
}

-- a task that is valid among some objects is so in each system of these objects
task_among : (policy : Policy) (objects : List ObjectRow) (tasks : List TaskRow) (demands : List Demand) (row : TaskRow)
    → IsTaskRow (alone objects) row → IsTaskRow (record { policy = policy; objects = objects; tasks = tasks; demands = demands }) row
task_among policy objects tasks demands row good = record {
  name = good.name;
  period = good.period;
  deadline = good.deadline;
  offset = good.offset;
  some_items = good.some_items;
  items = good.items;
}

-- and so is a demand row among some tasks
demand_among : (policy : Policy) (objects : List ObjectRow) (tasks : List TaskRow) (demands : List Demand) (row : Demand)
    → IsDemandRow (tasks_alone tasks) row → IsDemandRow (record { policy = policy; objects = objects; tasks = tasks; demands = demands }) row
demand_among policy objects tasks demands row good = record { task = good.task; job = good.job; item = good.item; work = good.work; ticks = good.ticks }

pub valid : (policy : Policy) (objects : List ObjectRow) (tasks : List TaskRow) (demands : List Demand) → AreObjects objects → AreTasks objects tasks
    → AreDemands tasks demands → length objects ≤ 16 → 1 ≤ length tasks → length tasks ≤ 64 → length demands ≤ 1000
    → IsValid (record { policy = policy; objects = objects; tasks = tasks; demands = demands })
valid policy objects tasks demands are_objects are_tasks are_demands few_objects some few few_demands = record {
  some_tasks = (some, few);
  few_objects = few_objects;
  few_demands = few_demands;
  tasks = λ task within. task_among policy objects tasks demands _ (are_tasks.good task no_task within);
  objects = λ place row e. at_place IsObjectRow objects place row are_objects.good e;
  demands = λ place row e. demand_among policy objects tasks demands row (at_place (IsDemandRow (tasks_alone tasks)) demands place row are_demands.good e);
  task_names = are_tasks.names;
  object_names = are_objects.names;
  one_demand = are_demands.once;
}

-- no body has more than 64 items
pub bodies : (objects : List ObjectRow) (tasks : List TaskRow) → AreTasks objects tasks → HaveBodies tasks
bodies objects tasks good task =
    elim (cases_lt task (length tasks)) [
      | inl within ↦ (good.good task no_task within).some_items.1
      | inr past ↦ rw (get_or_past tasks task no_task (omega arith)) (omega arith)
    ]

-- two rows that name one item are the same in the search for it
same_item : (a b : Demand) → NameOneItem a b → name_one_item b a ≡ true
same_item a b pair = grind (arith, nat_tests, pair.task, pair.job, pair.item)

once_next : (rows : List Demand) (row : Demand) → NamesOnce rows → is_named rows row ≡ false → NamesOnce (rows ++ row ∷ [])
once_next rows row once new a b first within pair =
    elim (cases_lt b (length rows)) [
      | inl lower ↦
          once a b first lower
          (rw (get_or_append_left rows (row ∷ []) no_demand a (omega arith), get_or_append_left rows (row ∷ []) no_demand b lower) at pair)
      | inr last ↦
          let long : length (rows ++ row ∷ []) ≡ length rows + 1 = grind (arith, common_steps) in
          let end : length rows ≡ b = omega arith in
          let earlier : a < length rows = omega arith in
          let same = rw (get_or_append_left rows (row ∷ []) no_demand a earlier, get_or_push rows row no_demand b end) at pair in
          let named = list_any_at (name_one_item row) rows a no_demand earlier (same_item (get_or rows a no_demand) row same) in
          cc
    ]

-- one demand row more
pub demands_next : (tasks : List TaskRow) (rows : List Demand) (row : Demand) → AreDemands tasks rows → IsDemandRow (tasks_alone tasks) row
    → is_named rows row ≡ false → AreDemands tasks (rows ++ row ∷ [])
demands_next tasks rows row before good new = record {
  good = All-push (IsDemandRow (tasks_alone tasks)) rows row before.good good;
  once = once_next rows row before.once new;
}

-- an item that is one of work states its ticks
pub work_stated : (item : Option Item) → is_work item ≡ true → (stated : ℕ) × (item ≡ Some (Work stated))
work_stated (Some (Work ticks)) h = (ticks, refl)
work_stated (Some (Op object call)) h = cc
work_stated None h = cc
