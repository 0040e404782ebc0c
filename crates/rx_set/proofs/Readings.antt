-- What code reads of a set is what clauses see.
use Rattle.std.proofs.Common.{ℕ, ◌≡◌, ◌≤◌, ◌<◌, ◌+◌, ◌-◌, ◌*◌, ◌^◌, List, [], ◌∷◌, ◌++◌, length, get_or, take, map, count_by, add-one, sym, subst, ap, ◌∙◌, arith, All}
use Rattle.std.proofs.lemmas.List.{get_or-map, get_or_default, length-map, map-append}
use Rattle.std.proofs.Math.Seq.{take-suc}
use Rattle.std.proofs.lemmas.Option.{slice_get-get_or}
use Rattle.rx_seq.specs.Table.{IsPart}
use Rattle.rx_seq.specs.History.{no_part, part_at}
use Rattle.rx_seq.proofs.Attempts.{few_steps}
use Rattle.std.specs.Prelude.{slice_get}
use Rattle.rx_set.specs.declared.policies.Policy.{Policy}
use Rattle.rx_set.specs.declared.demands.Demand.{Demand}
use Rattle.rx_set.specs.declared.items.Item.{Item}
use Rattle.rx_set.specs.declared.items.Item.TheVariants.{Work}
use Rattle.rx_set.specs.declared.jobs.Job.{Job}
use Rattle.rx_set.specs.declared.objects.Object.{Object}
use Rattle.rx_set.specs.declared.tasks.Task.{Task}
use Rattle.rx_set.specs.System.{System, ObjectRow, TaskRow, no_task, task_at, task_of, part_of_row, parts_of, attempt_cost, rank, is_ahead, numbers}
use Rattle.rx_set.specs.Valid.{IsValid, IsItem, IsJob}
use Rattle.rx_set.specs.View.{object_row, row_of, system_of}
use Rattle.rx_set.specs.Charges.{exposure}
use Rattle.rx_set.specs.Ranked.{IsTaskSet}
use Rattle.rx_set.proofs.Counts.{length-numbers, get_or-map_numbers}
use Rattle.rx_set.proofs.Ranks.{rank_found}
use Rattle.rx_set.proofs.Releases.{periods_bound}

no_object : ObjectRow
no_object = record { name = []; part = no_part }

pub task_read : (policy : Policy) (objects : List Object) (tasks : List Task) (demands : List Demand) (k : ℕ) (task : Task) → k < length tasks → task ≡ get_or tasks k task → task_at (system_of policy objects tasks demands) k ≡ row_of task
task_read policy objects tasks demands k task known is = get_or-map row_of tasks k task no_task known ∙ ap row_of (sym is)

-- the same of the set that is shown
pub row_read : (policy : Policy) (objects : List Object) (tasks : List Task) (demands : List Demand) (shown : System) (k : ℕ) (task : Task) → system_of policy objects tasks demands ≡ shown → k < length shown.tasks → task ≡ get_or tasks k task → task_at shown k ≡ row_of task
row_read policy objects tasks demands shown k task is known same =
    let P : System → Type 0 = λ s. k < length s.tasks → task_at s k ≡ row_of task in
    let here : P (system_of policy objects tasks demands) = λ inside. task_read policy objects tasks demands k task (omega (arith, length-map tasks row_of)) same in
    subst P is here known

pub shown_valid : (system shown : System) → system ≡ shown → IsValid system → IsValid shown
shown_valid system shown is valid = subst IsValid is valid

-- its numbers are small
pub job_bound : (shown : System) (job : Job) (task : Task) → IsValid shown → IsJob shown job → task_of shown job ≡ row_of task
    → (job.number * task.period ≤ 2 ^ 40 * 1000000) × ((job.number - 1) * task.period ≤ 2 ^ 40 * 1000000) × (task.offset ≤ 1000000) × (task.deadline ≤ 1000000)
job_bound shown job task valid known is =
    let row = valid.tasks job.task known.task in (
      subst (λ (r : TaskRow). job.number * r.period ≤ 2 ^ 40 * 1000000) is (periods_bound job.number (task_of shown job).period row.period.1 known.number.1),
      subst (λ (r : TaskRow). (job.number - 1) * r.period ≤ 2 ^ 40 * 1000000) is (periods_bound (job.number - 1) (task_of shown job).period row.period.1 (omega (arith, known.number.1))),
      subst (λ (r : TaskRow). r.offset ≤ 1000000) is row.offset,
      subst (λ (r : TaskRow). r.deadline ≤ 1000000) is (omega (arith, row.deadline.1, row.period.1)),
    )

-- the part of an object
pub part_here : (policy : Policy) (objects : List Object) (tasks : List Task) (demands : List Demand) (k : ℕ) (object : Object) → k < length objects → object ≡ get_or objects k object
    → part_at (parts_of (system_of policy objects tasks demands)) k ≡ object.part
part_here policy objects tasks demands k object known is =
    get_or-map part_of_row (map object_row objects) k no_object no_part (omega (arith, length-map objects object_row))
    ∙ ap part_of_row (get_or-map object_row objects k object no_object known ∙ ap object_row (sym is))

pub part_read : (policy : Policy) (objects : List Object) (tasks : List Task) (demands : List Demand) (shown : System) (k : ℕ) (object : Object) → system_of policy objects tasks demands ≡ shown → k < length shown.objects
    → object ≡ get_or objects k object → part_at (parts_of shown) k ≡ object.part
part_read policy objects tasks demands shown k object is known same =
    let P : System → Type 0 = λ s. k < length s.objects → part_at (parts_of s) k ≡ object.part in
    let here : P (system_of policy objects tasks demands) = λ inside. part_here policy objects tasks demands k object (omega (arith, length-map objects object_row)) same in
    subst P is here known

-- an object of a valid set is in its limits, and an attempt on it takes few ticks
pub part_valid : (system : System) (object : ℕ) → IsValid system → object < length system.objects → IsPart (part_at (parts_of system) object)
part_valid system object valid known =
    let row = valid.objects object (get_or system.objects object no_object) (slice_get-get_or system.objects object no_object known) in
    let part = get_or-map part_of_row system.objects object no_object no_part known in
    subst IsPart (sym part) row.part

pub parts_valid : (system : System) → IsValid system → All IsPart (parts_of system)
parts_valid system valid = λ k d within. subst IsPart (sym (get_or_default (parts_of system) k d no_part within)) (part_valid system k valid (omega (arith, within, length-map system.objects part_of_row)))

pub attempt_bound : (system : System) (object : ℕ) → IsValid system → object < length system.objects → (2 ≤ attempt_cost system object) × (attempt_cost system object ≤ 134)
attempt_bound system object valid known = few_steps (part_at (parts_of system) object) (part_valid system object valid known)

-- the items of a task
pub items_read : (policy : Policy) (objects : List Object) (tasks : List Task) (demands : List Demand) (shown : System) (k : ℕ) (task : Task) (items : List Item) → system_of policy objects tasks demands ≡ shown → k < length shown.tasks
    → task ≡ get_or tasks k task → items ≡ task.body → items ≡ (task_at shown k).items
items_read policy objects tasks demands shown k task items is known same read = read ∙ sym (ap (λ (row : TaskRow). row.items) (row_read policy objects tasks demands shown k task is known same))

pub item_here : (shown : System) (k place : ℕ) (items : List Item) → IsValid shown → k < length shown.tasks → items ≡ (task_at shown k).items → place < length items → IsItem shown (get_or items place (Work 0))
item_here shown k place items valid known is inside =
    (valid.tasks k known).items place (get_or items place (Work 0)) (ap (λ xs. slice_get xs place) (sym is) ∙ slice_get-get_or items place (Work 0) inside)

pub items_few : (shown : System) (k : ℕ) (items : List Item) → IsValid shown → k < length shown.tasks → items ≡ (task_at shown k).items → length items ≤ 64
items_few shown k items valid known is = omega (arith, ap length is, (valid.tasks k known).some_items.1)

-- the parts so far and one more
pub parts_more : (policy : Policy) (objects : List Object) (tasks : List Task) (demands : List Demand) (shown : System) (k : ℕ) (object : Object) → system_of policy objects tasks demands ≡ shown → k < length objects
    → object ≡ get_or objects k object → take k (parts_of shown) ++ object.part ∷ [] ≡ take (k + 1) (parts_of shown)
parts_more policy objects tasks demands shown k object is known same =
    let P : System → Type 0 = λ s. take k (parts_of s) ++ object.part ∷ [] ≡ take (k + 1) (parts_of s) in
    let here : P (system_of policy objects tasks demands) =
    let parts = parts_of (system_of policy objects tasks demands) in
    let long : k < length parts = omega (arith, length-map objects object_row, length-map (map object_row objects) part_of_row) in
    let last : get_or parts k no_part ≡ object.part = part_here policy objects tasks demands k object known same in
    sym (ap (λ n. take n parts) (add-one k) ∙ take-suc parts k no_part long ∙ ap (λ x. take k parts ++ x ∷ []) last) in
    subst P is here

-- ranks as they are counted
pub rank_counted : (policy : Policy) (tasks : List Task) (k count : ℕ) → count ≡ count_by (is_ahead (system_of policy [] tasks []) k) (numbers (length tasks)) → count + 1 ≡ rank (system_of policy [] tasks []) k
rank_counted policy tasks k count is =
    ap (λ n. n + 1) is ∙ ap (λ n. count_by (is_ahead (system_of policy [] tasks []) k) (numbers n) + 1) (sym (length-map tasks row_of))

pub map_numbers_more : (f : ℕ → ℕ) (n : ℕ) → map f (numbers (n + 1)) ≡ map f (numbers n) ++ f n ∷ []
map_numbers_more f n = rw add-one (map-append f (numbers n) (n ∷ []))

length-ranks : (system : System) (ranks exposures order : List ℕ) → IsTaskSet system ranks exposures order → length ranks ≡ length system.tasks
length-ranks system ranks exposures order set =
    ap length set.all_ranks ∙ length-map (numbers (length system.tasks)) (rank system) ∙ length-numbers (length system.tasks)

pub rank_in_range : (system shown : System) (ranks exposures order read : List ℕ) (k : ℕ) → system ≡ shown → IsTaskSet system ranks exposures order → read ≡ ranks → k < length shown.tasks → k < length read
rank_in_range system shown ranks exposures order read k is set same known = let known_here : k < length system.tasks = rw is known in omega (arith, ap length same, length-ranks system ranks exposures order set)

pub rank_read : (system shown : System) (ranks exposures order read : List ℕ) (k : ℕ) → system ≡ shown → IsTaskSet system ranks exposures order → read ≡ ranks → k < length shown.tasks → get_or read k 0 ≡ rank shown k
rank_read system shown ranks exposures order read k is set same known =
    let P : System → Type 0 = λ s. k < length s.tasks → get_or read k 0 ≡ rank s k in
    let here : P system = λ inside. ap (λ xs. get_or xs k 0) (same ∙ set.all_ranks) ∙ get_or-map_numbers (rank system) (length system.tasks) k inside in
    subst P is here known

pub rank_read_back : (system shown : System) (ranks exposures order read : List ℕ) (k : ℕ) → system ≡ shown → IsTaskSet system ranks exposures order → read ≡ ranks → k < length read → k < length shown.tasks
rank_read_back system shown ranks exposures order read k is set same known = let equal : length system.tasks ≡ length shown.tasks = ap (λ (s : System). length s.tasks) is in omega (arith, ap length same, length-ranks system ranks exposures order set)

-- some place of the table has each rank
pub rank_somewhere : (system shown : System) (ranks exposures order : List ℕ) (r end : ℕ) → system ≡ shown → IsTaskSet system ranks exposures order → 1 ≤ r → r ≤ length shown.tasks → length ranks ≤ end
    → ((k : ℕ) → k < end → get_or ranks k 0 ≡ r → ⊥) → ⊥
rank_somewhere system shown ranks exposures order r end is set first last all nowhere =
    let equal : length system.tasks ≡ length shown.tasks = ap (λ (s : System). length s.tasks) is in
    let found = rank_found system r first (omega arith) in
    nowhere found.0 (omega (arith, found.1, length-ranks system ranks exposures order set))
    (ap (λ xs. get_or xs found.0 0) set.all_ranks ∙ get_or-map_numbers (rank system) (length system.tasks) found.0 found.1 ∙ found.2)

-- the exposures that are read
pub exposure_in_range : (system shown : System) (ranks exposures order read : List ℕ) (k : ℕ) → system ≡ shown → IsTaskSet system ranks exposures order → read ≡ exposures → k < length shown.tasks → k < length read
exposure_in_range system shown ranks exposures order read k is set same known =
    let known_here : k < length system.tasks = rw is known in
    let many : length exposures ≡ length system.tasks = ap length set.all_exposures ∙ length-map (numbers (length system.tasks)) (exposure system) ∙ length-numbers (length system.tasks) in
    omega (arith, ap length same, many)

pub exposure_read : (system shown : System) (ranks exposures order read : List ℕ) (k : ℕ) → system ≡ shown → IsTaskSet system ranks exposures order → read ≡ exposures → k < length shown.tasks → get_or read k 0 ≡ exposure shown k
exposure_read system shown ranks exposures order read k is set same known =
    let P : System → Type 0 = λ s. k < length s.tasks → get_or read k 0 ≡ exposure s k in
    let here : P system = λ inside. ap (λ xs. get_or xs k 0) (same ∙ set.all_exposures) ∙ get_or-map_numbers (exposure system) (length system.tasks) k inside in
    subst P is here known
