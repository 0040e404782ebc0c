-- The slots of a job are cut into its items in turn.
use Rattle.std.proofs.Common.{ℕ, zero, suc, ◌≡◌, ◌≢◌, ◌≤◌, ◌<◌, ◌+◌, ◌-◌, ◌==◌, ◌&&◌, Bool, true, false, if◌then◌else◌, List, [], ◌∷◌, length, get_or, Option, Some, None, refl, sym, ◌∙◌, ap, arith, subst, add-one}
use Rattle.std.specs.List.{slice_get}
use Rattle.std.proofs.lemmas.Bool.Decides.{nat_tests}
use Rattle.std.proofs.lemmas.Option.{slice_get-get_or}
use Rattle.rx_seq.specs.Table.{attempt_by}
use Rattle.rx_seq.specs.declared.calls.Call.{Call}
use Rattle.rx_seq.specs.declared.kinds.Kind.{Kind}
use Rattle.rx_seq.specs.declared.kinds.Kind.TheVariants.{Cell, Queue, Registers, List as Ordered}
use Rattle.rx_seq.specs.History.{part_at}
use Rattle.rx_set.specs.declared.demands.Demand.{Demand}
use Rattle.rx_set.specs.declared.items.Item.{Item}
use Rattle.rx_set.specs.declared.items.Item.TheVariants.{Work, Op}
use Rattle.rx_set.specs.declared.jobs.Job.{Job}
use Rattle.rx_set.specs.System.{System, task_of, parts_of, item_at, demanded, ticks_of, attempt_cost}
use Rattle.rx_set.specs.Valid.{IsValid, IsJobOf, IsItem, IsWork}
use Rattle.rx_slots.specs.Schedule.{Slot, Progress, progress, slots, slot_at}
use Rattle.rx_slots.specs.Laws.{who, so_far, finished_before, owned, slots_of, asked_by, asked_up_to, lost_in, lost_ticks}
use Rattle.rx_slots.proofs.Choices.{who_pending}
use Rattle.rx_slots.proofs.Steps.{IsOwn, Goes, Works, Loses, Wins, IsEither, Own, Other, either, item_in, slot_rule, same_self}

-- what the complete items ask for, and what is in hand
abbrev brought : System → Job → Progress → ℕ
brought system job p = asked_up_to system job p.complete + p.made

up_next : (system : System) (job : Job) (place : ℕ) → asked_up_to system job (place + 1) ≡ asked_up_to system job place + asked_by system (item_at system job place)
up_next system job place = ap (asked_up_to system job) (add-one place)

share_own : (system : System) (job : Job) (past : List Slot) (slot : Slot) → IsOwn system past job slot
    → brought system job (progress system job past) + 1 ≡ brought system job (progress system job (slot ∷ past)) + lost_in system job slot
share_own system job past slot (Goes is some next) =
    let lost_none : lost_in system job slot ≡ 0 = ap (lost_in system job) is in
    let now : brought system job (progress system job (slot ∷ past)) ≡ asked_up_to system job (progress system job past).complete + ((progress system job past).made + 1) = ap (brought system job) next in
    omega (arith, lost_none, now)
share_own system job past slot (Works is all next) =
    let lost_none : lost_in system job slot ≡ 0 = ap (lost_in system job) is in
    let now : brought system job (progress system job (slot ∷ past)) ≡ asked_up_to system job ((progress system job past).complete + 1) + 0 = ap (brought system job) next in
    omega (arith, lost_none, now, up_next system job (progress system job past).complete)
share_own system job past slot (Loses object call is item all spoiled next) =
    let lost_all : lost_in system job slot ≡ attempt_cost system object = ap (lost_in system job) is ∙ ap (λ (b : Bool). if b then attempt_cost system object else 0) (same_self job) in
    let now : brought system job (progress system job (slot ∷ past)) ≡ asked_up_to system job (progress system job past).complete + 0 = ap (brought system job) next in
    omega (arith, lost_all, now)
share_own system job past slot (Wins object call is item all calm next) =
    let lost_none : lost_in system job slot ≡ 0 = ap (lost_in system job) is in
    let asked : asked_by system (item_in system past job) ≡ attempt_cost system object = ap (asked_by system) item in
    let now : brought system job (progress system job (slot ∷ past)) ≡ asked_up_to system job ((progress system job past).complete + 1) + 0 = ap (brought system job) next in
    omega (arith, lost_none, asked, now, up_next system job (progress system job past).complete)

share : (system : System) (job : Job) (n : ℕ) → IsEither system n job
    → brought system job (so_far system job n) + owned job (who system n) ≡ brought system job (so_far system job (suc n)) + lost_in system job (slot_at system n)
share system job n (Own mine own) =
    let one : owned job (who system n) ≡ 1 = ap (owned job) mine ∙ ap (λ (b : Bool). if b then 1 else 0) (same_self job) in
    omega (arith, one, share_own system job (slots system n) (slot_at system n) own)
share system job n (Other not_mine h) =
    let same_brought : brought system job (so_far system job (suc n)) ≡ brought system job (so_far system job n) = ap (brought system job) h.stays in
    let none : owned job (who system n) ≡ 0 = h.none in
    omega (arith, same_brought, none, h.kept)

-- the slots of a job: what its complete items ask for, what is in hand, and the attempts that were lost
pub cut : (system : System) (n : ℕ) (job : Job)
    → slots_of job (slots system n) ≡ asked_up_to system job (so_far system job n).complete + (so_far system job n).made + lost_ticks system job (slots system n)
cut system zero job = refl
cut system (suc n) job = omega (arith, cut system n job, share system job n (either system n job))

-- every item asks for a tick at least
ticks_some : (rows : List Demand) (job : Job) (number stated : ℕ) → ((place : ℕ) (row : Demand) → slice_get rows place ≡ Some row → 1 ≤ row.ticks) → 1 ≤ stated → 1 ≤ ticks_of rows job number stated
ticks_some [] job number stated each some = some
ticks_some (row ∷ rows) job number stated each some = by_test ((row.task == job.task) && (row.job == job.number) && (row.item == number)) (ticks_some rows job number stated (λ place. each (suc place)) some)
  where
    by_test : (b : Bool) → 1 ≤ ticks_of rows job number stated → 1 ≤ (if b then row.ticks else ticks_of rows job number stated)
    by_test true rest = each 0 row refl
    by_test false rest = rest

cost_by : (kind : Kind) (cap : ℕ) → 2 ≤ attempt_by kind cap
cost_by Cell cap = omega arith
cost_by Queue cap = omega arith
cost_by Registers cap = omega arith
cost_by Ordered cap = omega arith

pub cost_some : (system : System) (object : ℕ) → 2 ≤ attempt_cost system object
cost_some system object = cost_by (part_at (parts_of system) object).kind (part_at (parts_of system) object).cap

asked_some : (system : System) (job : Job) (number : ℕ) → IsValid system → (item : Item) → IsItem system item → 1 ≤ asked_by system (demanded system.demands job number (Some item))
asked_some system job number valid (Work ticks) is = ticks_some system.demands job number ticks (λ place row e. (valid.demands place row e).ticks.0) is.0
asked_some system job number valid (Op object call) is = omega (arith, cost_some system object)

item_some : (system : System) (job : Job) (place : ℕ) → IsValid system → IsJobOf system job → place < length (task_of system job).items → 1 ≤ asked_by system (item_at system job place)
item_some system job place valid known inside =
    let item : Item = get_or (task_of system job).items place (Work 0) in
    let there : slice_get (task_of system job).items place ≡ Some item = slice_get-get_or (task_of system job).items place (Work 0) inside in
    subst (λ (o : Option Item). 1 ≤ asked_by system (demanded system.demands job (place + 1) o)) (sym there)
    (asked_some system job (place + 1) valid item ((valid.tasks job.task known.task).items place item there))

-- no more than all items are complete, and then nothing is in hand
record IsWithin (system : System) (job : Job) (p : Progress) : Type 0 where
  pub within : p.complete ≤ length (task_of system job).items
  pub done : length (task_of system job).items ≤ p.complete → p.made ≡ 0

not_done : (system : System) (job : Job) (n : ℕ) → finished_before system job n ≡ false → (so_far system job n).complete < length (task_of system job).items
not_done system job n h = grind (arith, nat_tests)

within : (system : System) (job : Job) (n : ℕ) → IsWithin system job (so_far system job n)
within system job zero = record { within = omega arith; done = λ all. refl }
within system job (suc n) =
    slot_rule (IsWithin system job) system n job
    (λ not_mine none. within system job n)
    (λ mine is some. let h = inside mine in record { within = omega arith; done = λ all. absurd (omega arith) })
    (λ mine. let h = inside mine in record { within = omega arith; done = λ all. refl })
    (λ mine. let h = inside mine in record { within = omega arith; done = λ all. refl })
  where
    inside : who system n ≡ Some job → (so_far system job n).complete < length (task_of system job).items
    inside mine = not_done system job n (who_pending system n job mine).unfinished

-- what is in hand is less than its item asks for
abbrev IsSmall : System → Job → Progress → Type 0
IsSmall system job p = p.complete < length (task_of system job).items → p.made < asked_by system (item_at system job p.complete)

small : (system : System) (job : Job) (n : ℕ) → IsValid system → IsJobOf system job → IsSmall system job (so_far system job n)
small system job zero valid known = λ inside. item_some system job 0 valid known inside
small system job (suc n) valid known =
    slot_rule (IsSmall system job) system n job
    (λ not_mine none. small system job n valid known)
    (λ mine is some inside. one_more (small system job n valid known inside) some)
    (λ mine inside. item_some system job (so_far system job n).complete valid known inside)
    (λ mine inside. item_some system job ((so_far system job n).complete + 1) valid known inside)
  where
    one_more : {made asked : ℕ} → made < asked → made + 1 ≢ asked → made + 1 < asked
    one_more h differs = omega arith

up_more : (system : System) (job : Job) (m more : ℕ) → asked_up_to system job m ≤ asked_up_to system job (more + m)
up_more system job m zero =
    let same : asked_up_to system job (0 + m) ≡ asked_up_to system job m = let e : 0 + m ≡ m = omega arith in ap (asked_up_to system job) e in
    omega (arith, same)
up_more system job m (suc more) =
    let same : asked_up_to system job (suc more + m) ≡ asked_up_to system job (suc (more + m)) = let e : suc more + m ≡ suc (more + m) = omega arith in ap (asked_up_to system job) e in
    omega (arith, same, up_more system job m more)

up_from : (system : System) (job : Job) (m n : ℕ) → m < n → asked_up_to system job m + asked_by system (item_at system job m) ≤ asked_up_to system job n
up_from system job m n h =
    let e : n - suc m + suc m ≡ n = omega arith in
    let same : asked_up_to system job (n - suc m + suc m) ≡ asked_up_to system job n = ap (asked_up_to system job) e in
    omega (arith, same, up_more system job (suc m) (n - suc m))

-- a finished job has had what its items ask for, and the attempts that it lost
pub finished_share : (system : System) (n : ℕ) (job : Job) → finished_before system job n ≡ true
    → slots_of job (slots system n) ≡ asked_up_to system job (length (task_of system job).items) + lost_ticks system job (slots system n)
finished_share system n job h =
    let w = within system job n in
    let all : length (task_of system job).items ≤ (so_far system job n).complete = grind (arith, nat_tests) in
    let same : (so_far system job n).complete ≡ length (task_of system job).items = omega (arith, w.within, all) in
    let up : asked_up_to system job (so_far system job n).complete ≡ asked_up_to system job (length (task_of system job).items) = ap (asked_up_to system job) same in
    omega (arith, cut system n job, w.done all, up)

-- what an unfinished job has in hand is less than its item asks for
pub in_hand_share : (system : System) (n : ℕ) (job : Job) → IsValid system → IsJobOf system job → finished_before system job n ≡ false
    → (so_far system job n).made < asked_by system (item_at system job (so_far system job n).complete)
in_hand_share system n job valid known h = small system job n valid known (not_done system job n h)

-- and one that is not finished fewer
pub unfinished_share : (system : System) (n : ℕ) (job : Job) → IsValid system → IsJobOf system job → finished_before system job n ≡ false
    → slots_of job (slots system n) < asked_up_to system job (length (task_of system job).items) + lost_ticks system job (slots system n)
unfinished_share system n job valid known h =
    let inside : (so_far system job n).complete < length (task_of system job).items = not_done system job n h in
    omega (arith, cut system n job, small system job n valid known inside, up_from system job (so_far system job n).complete (length (task_of system job).items) inside)

pub stated_op : (rows : List Demand) (job : Job) (number object : ℕ) (call : Call) (o : Option Item) → demanded rows job number o ≡ Some (Op object call) → o ≡ Some (Op object call)
stated_op rows job number object call None e = e
stated_op rows job number object call (Some (Work ticks)) e = cc
stated_op rows job number object call (Some (Op other call')) e = e

-- a job without operations loses no attempt
pub none_lost : (system : System) (n : ℕ) (job : Job) → ((place : ℕ) (item : Item) → slice_get (task_of system job).items place ≡ Some item → IsWork item) → lost_ticks system job (slots system n) ≡ 0
none_lost system zero job work = refl
none_lost system (suc n) job work = by_owner (either system n job) (none_lost system n job work)
  where
    by_own : (past : List Slot) (slot : Slot) → IsOwn system past job slot → lost_in system job slot ≡ 0
    by_own past slot (Goes is some next) = ap (lost_in system job) is
    by_own past slot (Works is all next) = ap (lost_in system job) is
    by_own past slot (Loses object call is item all spoiled next) =
        absurd (work (progress system job past).complete (Op object call)
        (stated_op system.demands job ((progress system job past).complete + 1) object call (slice_get (task_of system job).items (progress system job past).complete) item))
    by_own past slot (Wins object call is item all calm next) = ap (lost_in system job) is

    by_owner : IsEither system n job → lost_ticks system job (slots system n) ≡ 0 → lost_ticks system job (slots system (suc n)) ≡ 0
    by_owner (Own mine own) before = omega (arith, before, by_own (slots system n) (slot_at system n) own)
    by_owner (Other not_mine h) before = omega (arith, before, h.kept)
