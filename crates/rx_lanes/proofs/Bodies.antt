-- The bodies of a set's tasks.
use Rattle.std.proofs.Common.{ℕ, ◌≡◌, ◌*◌, ◌<◌, ◌≤◌, List, length, map, get_or, slice_get, sym, ap, ◌∙◌, subst, arith}
use Rattle.std.proofs.Math.Nat.{mul-le-mul}
use Rattle.std.proofs.lemmas.List.{length-map, get_or-map}
use Rattle.rx_seq.specs.declared.kinds.Part.{Part}
use Rattle.rx_set.specs.declared.items.Item.{Item}
use Rattle.rx_set.specs.declared.items.Item.TheVariants.{Work, Op}
use Rattle.rx_set.specs.declared.tasks.Task.{Task}
use Rattle.rx_set.specs.System.{System, TaskRow, no_task, task_at, part_of_row, parts_of}
use Rattle.rx_set.specs.Valid.{IsValid, IsItem}
use Rattle.rx_set.specs.View.{row_of}
use Rattle.rx_set.specs.Operations.{Asked, operations_of, script_of}
use Rattle.rx_lanes.specs.Lanes.{CanMake, CanMakeAll}
use Rattle.rx_lanes.proofs.Parts.{some_more, repeated_length}

pub tasks_many : (system : System) (tasks : List Task) → map row_of tasks ≡ system.tasks → length tasks ≡ length system.tasks
tasks_many system tasks rows = sym (length-map tasks row_of) ∙ ap length rows

pub body_at : (system : System) (tasks : List Task) (k : ℕ) (task : Task) → map row_of tasks ≡ system.tasks → k < length system.tasks → (get_or tasks k task).body ≡ (task_at system k).items
body_at system tasks k task rows known =
    let inside : k < length tasks = omega (arith, tasks_many system tasks rows) in
    let at : get_or (map row_of tasks) k no_task ≡ row_of (get_or tasks k task) = get_or-map row_of tasks k task no_task inside in
    sym (ap (λ (rs : List TaskRow). (get_or rs k no_task).items) (sym rows) ∙ ap (λ (row : TaskRow). row.items) at)

pub product_few : (jobs count : ℕ) → jobs ≤ 200 → count ≤ 64 → jobs * count ≤ 12800
product_few jobs count a b = mul-le-mul {n₁ = jobs} {m₁ = count} {n₂ = 200} {m₂ = 64} a b

-- the script of a task
module _ (system : System) (jobs k : ℕ) (items : List Item) (valid : IsValid system) (known : k < length system.tasks) (is : items ≡ (task_at system k).items) where
  pub few_items : length items ≤ 64
  few_items = let bound = (valid.tasks k known).some_items.1 in omega (arith, ap length is, bound)

  pub script_is : script_of system jobs k ≡ Rattle.rx_set.specs.Operations.repeated jobs (operations_of items)
  script_is = ap (λ (xs : List Item). Rattle.rx_set.specs.Operations.repeated jobs (operations_of xs)) (sym is)

  pub script_count : jobs * length (operations_of items) ≡ length (script_of system jobs k)
  script_count = sym (ap length script_is ∙ repeated_length jobs (operations_of items))

  pub script_few : jobs ≤ 200 → jobs * length (operations_of items) ≤ 12800
  script_few h = product_few jobs (length (operations_of items)) h (omega (arith, some_more items, few_items))

  can_make : (item : Item) → IsItem system item → CanMake (parts_of system) item
  can_make (Work ticks) h = tt
  can_make (Op object call) h = (omega (arith, h.0, length-map system.objects part_of_row), h.1)

  pub body_fits : (parts : List Part) → parts ≡ parts_of system → CanMakeAll parts items
  body_fits parts same = subst (λ (ps : List Part). CanMakeAll ps items) (sym same) (λ place item at. can_make item ((valid.tasks k known).items place item (sym (ap (λ (xs : List Item). slice_get xs place) is) ∙ at)))
