-- The items of a valid set, and the rows of a transaction that fits.
use Rattle.std.proofs.Common.{ℕ, ◌≡◌, ◌<◌, ◌≤◌, List, length, get_or, map, ap, sym, subst, ◌∙◌, None, Some, true, IfSome, Bor, arith}
use Rattle.std.proofs.lemmas.Bool.Decides.{nat_tests}
use Rattle.std.proofs.lemmas.List.{get_or-map, length-map}
use Rattle.std.proofs.lemmas.List.Elements.{All-from_get_or}
use Rattle.std.proofs.lemmas.Option.{slice_get-get_or}
use Rattle.std.specs.declared.option.Option.{Option}
use Rattle.std.specs.List.{All}
use Rattle.std.specs.Slice.{IsItemAt}
use Rattle.rx_seq.specs.declared.kinds.Kind.{Kind}
use Rattle.rx_seq.specs.declared.kinds.Kind.TheVariants.{Cell, Queue, Registers, List as Ordered}
use Rattle.rx_seq.specs.declared.kinds.Part.{Part}
use Rattle.rx_seq.specs.declared.calls.Row.{Row}
use Rattle.rx_seq.specs.declared.calls.Call.{Call}
use Rattle.rx_seq.specs.declared.calls.Call.TheVariants.{Multi}
use Rattle.rx_seq.specs.Table.{fits_by, fits_part}
use Rattle.rx_set.specs.declared.items.Item.TheVariants.{Work}
use Rattle.rx_set.specs.declared.tasks.Task.{Task}
use Rattle.rx_set.specs.System.{System, TaskRow, no_task, task_at}
use Rattle.rx_set.specs.Valid.{IsValid, IsItem}
use Rattle.rx_set.specs.View.{row_of}

-- each item of a task of a valid system is one of the system
all_items : (system : System) (task : ℕ) → IsValid system → task < length system.tasks → All (IsItem system) (task_at system task).items
all_items system task valid known =
    All-from_get_or (IsItem system) (task_at system task).items (Work 0)
    (λ place inside. (valid.tasks task known).items place _ (slice_get-get_or (task_at system task).items place (Work 0) inside))

-- the row of a task that was read
row_read : (system : System) (tasks : List Task) (k : ℕ) (task : Task) → map row_of tasks ≡ system.tasks → k < length tasks → task ≡ get_or tasks k task → task_at system k ≡ row_of task
row_read system tasks k task rows inside read =
    ap (λ (all : List TaskRow). get_or all k no_task) (sym rows) ∙ get_or-map row_of tasks k task no_task inside ∙ ap row_of (sym read)

-- a task that was looked up has items of the system
pub found_items : (system : System) (tasks : List Task) (k : ℕ) (found : Option (Bor Task)) → IsItemAt tasks k found → map row_of tasks ≡ system.tasks
    → IsValid system → IfSome found (λ task. All (IsItem system) task.now.body)
found_items system tasks k None is rows valid = tt
found_items system tasks k (Some task) is rows valid =
    let inside : k < length system.tasks = omega (arith, is.3.0, ap length rows, length-map tasks row_of) in
    subst (λ (row : TaskRow). All (IsItem system) row.items) (row_read system tasks k task.now rows is.3.0 is.1) (all_items system k valid inside)

-- and has at most 64 of them
pub found_few : (system : System) (tasks : List Task) (k : ℕ) (task : Task) → k < length tasks → task ≡ get_or tasks k task → map row_of tasks ≡ system.tasks
    → IsValid system → length task.body ≤ 64
found_few system tasks k task inside read rows valid =
    let known : k < length system.tasks = omega (arith, inside, ap length rows, length-map tasks row_of) in
    subst (λ (row : TaskRow). length row.items ≤ 64) (row_read system tasks k task rows inside read) (valid.tasks k known).some_items.1

few_rows_by : (kind : Kind) (cap count : ℕ) (rows : List Row) → fits_by kind cap (Multi count rows) ≡ true → count ≤ 4
few_rows_by Cell cap count rows fits = cc
few_rows_by Queue cap count rows fits = cc
few_rows_by Ordered cap count rows fits = cc
few_rows_by Registers cap count rows fits = grind (arith, nat_tests)

-- a transaction that fits has at most 4 rows
pub few_rows : (part : Part) (call : Call) (count : ℕ) (rows : List Row) → call ≡ Multi count rows → fits_part part call ≡ true → count ≤ 4
few_rows part call count rows is fits = few_rows_by part.kind part.cap count rows (rw is at fits)
