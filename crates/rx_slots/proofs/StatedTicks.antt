-- The slots of a job against its stated cost, where no demand row has more ticks than its item states.
use Rattle.std.proofs.Common.{ℕ, zero, suc, ◌≡◌, ◌≤◌, ◌<◌, ◌+◌, ◌-◌, ◌==◌, ◌&&◌, Bool, true, false, if◌then◌else◌, List, [], ◌∷◌, length, get_or, take, Option, Some, sum_by, refl, sym, ◌∙◌, ap, arith, subst, add-one, take_all}
use Rattle.std.specs.List.{slice_get}
use Rattle.std.proofs.lemmas.Bool.Decides.{nat_tests}
use Rattle.std.proofs.lemmas.List.Sums.{sum_by_more}
use Rattle.std.proofs.lemmas.Option.{slice_get-get_or}
use Rattle.rx_set.specs.declared.demands.Demand.{Demand}
use Rattle.rx_set.specs.declared.items.Item.{Item}
use Rattle.rx_set.specs.declared.items.Item.TheVariants.{Work, Op}
use Rattle.rx_set.specs.declared.jobs.Job.{Job}
use Rattle.rx_set.specs.System.{System, task_at, task_of, item_at, demanded, ticks_of, item_cost, cost}
use Rattle.rx_set.specs.Valid.{IsValid, IsJobOf, KeepsCosts}
use Rattle.rx_set.specs.Admission.{total}
use Rattle.rx_slots.specs.Schedule.{slots, slot_at}
use Rattle.rx_slots.specs.Laws.{who, finished_before, owned, slots_of, asked_by, asked_up_to, lost_in, lost_ticks}
use Rattle.rx_slots.proofs.Shares.{finished_share, unfinished_share}

-- the slots of a job, and the ticks of its lost attempts, as sums over slots
pub slots_total : (system : System) (job : Job) (n : ℕ) → slots_of job (slots system n) ≡ total (λ k. owned job (who system k)) n
slots_total system job zero = refl
slots_total system job (suc n) = omega (arith, slots_total system job n)

pub lost_total : (system : System) (job : Job) (n : ℕ) → lost_ticks system job (slots system n) ≡ total (λ k. lost_in system job (slot_at system k)) n
lost_total system job zero = refl
lost_total system job (suc n) = omega (arith, lost_total system job n)

-- a row that names a work item has no more ticks than this
abbrev HasAtMost : List Demand → Job → ℕ → ℕ → Type 0
HasAtMost rows job item stated = (place : ℕ) (row : Demand) → slice_get rows place ≡ Some row → row.task ≡ job.task → row.item ≡ item → row.ticks ≤ stated

ticks_kept : (rows : List Demand) (job : Job) (item stated : ℕ) → HasAtMost rows job item stated → ticks_of rows job item stated ≤ stated
ticks_kept [] job item stated few = omega arith
ticks_kept (row ∷ rows) job item stated few =
    by_test ((row.task == job.task) && (row.job == job.number) && (row.item == item)) refl (ticks_kept rows job item stated (λ place. few (suc place)))
  where
    by_test : (b : Bool) → ((row.task == job.task) && (row.job == job.number) && (row.item == item)) ≡ b → ticks_of rows job item stated ≤ stated
        → (if b then row.ticks else ticks_of rows job item stated) ≤ stated
    by_test true e rest = few 0 row refl (grind (arith, nat_tests)) (grind (arith, nat_tests))
    by_test false e rest = rest

-- what an item asks for is at most its stated cost
asked_kept : (system : System) (job : Job) (place : ℕ) → KeepsCosts system → (item : Item) → slice_get (task_of system job).items place ≡ Some item
    → asked_by system (demanded system.demands job (place + 1) (Some item)) ≤ item_cost system item
asked_kept system job place keeps (Op object call) e = omega arith
asked_kept system job place keeps (Work ticks) e =
    ticks_kept system.demands job (place + 1) ticks
    (λ at row here tasks items.
    let spot : place ≡ row.item - 1 = omega (arith, items) in
    keeps.each at row ticks here
    (subst (λ (k : ℕ). slice_get (task_at system row.task).items k ≡ Some (Work ticks)) spot
    (subst (λ (t : ℕ). slice_get (task_at system t).items place ≡ Some (Work ticks)) (sym tasks) e)))

-- and so is what a job's items ask for
asked_to : (system : System) (job : Job) (count : ℕ) → KeepsCosts system → count ≤ length (task_of system job).items
    → asked_up_to system job count ≤ sum_by (item_cost system) (take count (task_of system job).items)
asked_to system job zero keeps inside = omega arith
asked_to system job (suc count) keeps inside =
    let items : List Item = (task_of system job).items in
    let item : Item = get_or items count (Work 0) in
    let here : slice_get items count ≡ Some item = slice_get-get_or items count (Work 0) (omega (arith, inside)) in
    let asked : asked_by system (item_at system job count) ≤ item_cost system item =
    subst (λ (o : Option Item). asked_by system (demanded system.demands job (count + 1) o) ≤ item_cost system item) (sym here) (asked_kept system job count keeps item here) in
    let one_more : sum_by (item_cost system) (take (suc count) items) ≡ sum_by (item_cost system) (take count items) + item_cost system item =
    ap (λ (k : ℕ). sum_by (item_cost system) (take k items)) (sym (add-one count)) ∙ sum_by_more (item_cost system) items count (Work 0) (omega (arith, inside)) in
    omega (arith, asked, one_more, asked_to system job count keeps (omega (arith, inside)))

asked_all : (system : System) (job : Job) → KeepsCosts system → asked_up_to system job (length (task_of system job).items) ≤ cost system job.task
asked_all system job keeps =
    let items : List Item = (task_of system job).items in
    let all : sum_by (item_cost system) (take (length items) items) ≡ cost system job.task = ap (sum_by (item_cost system)) (take_all (length items) items (omega arith)) in
    omega (arith, all, asked_to system job (length items) keeps (omega arith))

-- an unfinished job has had fewer slots than its stated cost and the ticks of its lost attempts
pub fewer_slots : (system : System) (job : Job) (n : ℕ) → IsValid system → KeepsCosts system → IsJobOf system job → finished_before system job n ≡ false
    → total (λ k. owned job (who system k)) n < cost system job.task + total (λ k. lost_in system job (slot_at system k)) n
fewer_slots system job n valid keeps known h =
    omega (arith, unfinished_share system n job valid known h, asked_all system job keeps, slots_total system job n, lost_total system job n)

-- and no job has had more
pub few_slots : (system : System) (job : Job) (n : ℕ) → IsValid system → KeepsCosts system → IsJobOf system job
    → total (λ k. owned job (who system k)) n ≤ cost system job.task + total (λ k. lost_in system job (slot_at system k)) n
few_slots system job n valid keeps known = by_end (finished_before system job n) refl
  where
    by_end : (b : Bool) → finished_before system job n ≡ b → total (λ k. owned job (who system k)) n ≤ cost system job.task + total (λ k. lost_in system job (slot_at system k)) n
    by_end true e = omega (arith, finished_share system n job e, asked_all system job keeps, slots_total system job n, lost_total system job n)
    by_end false e = omega (arith, fewer_slots system job n valid keeps known e)
