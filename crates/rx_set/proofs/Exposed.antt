-- Exposures of tasks: the lowest level that may change an object, and the longest attempt that can be spoiled.
use Rattle.std.proofs.Common.{ℕ, zero, suc, ◌≡◌, ◌≤◌, ◌<◌, ◌+◌, ◌-◌, ◌^◌, ◌&&◌, ◌||◌, nat_lt, Bool, true, false, List, [], ◌∷◌, length, get_or, map, replicate, Option, Some, None, refl, sym, ◌∙◌, ap, arith, subst, add-one}
use Rattle.std.specs.Prelude.{slice_get}
use Rattle.std.specs.List.{list_any}
use Rattle.std.proofs.lemmas.Bool.{lt-ltb}
use Rattle.std.proofs.lemmas.Bool.Decides.{nat_tests}
use Rattle.std.proofs.lemmas.List.Folds.{list_any-append}
use Rattle.std.proofs.lemmas.List.{length-map}
use Rattle.std.proofs.lemmas.Option.{slice_get_within}
use Rattle.rx_seq.specs.declared.kinds.Part.{Part}
use Rattle.rx_seq.specs.declared.calls.Call.{Call}
use Rattle.rx_seq.specs.Table.{IsPart, attempt_steps}
use Rattle.rx_seq.specs.History.{part_at}
use Rattle.rx_seq.proofs.Attempts.{few_steps}
use Rattle.rx_set.specs.declared.items.Item.{Item}
use Rattle.rx_set.specs.declared.items.Item.TheVariants.{Work, Op}
use Rattle.rx_set.specs.declared.objects.Object.{Object}
use Rattle.rx_set.specs.declared.tasks.Task.{Task}
use Rattle.rx_set.specs.declared.demands.Demand.{Demand}
use Rattle.rx_set.specs.declared.policies.Policy.{Policy}
use Rattle.rx_set.specs.declared.policies.Policy.TheVariants.{Rm, Dm, Edf}
use Rattle.rx_set.specs.System.{System, TaskRow, task_at, parts_of, rank, numbers, larger, largest}
use Rattle.rx_set.specs.Valid.{IsValid, IsItem}
use Rattle.rx_set.specs.View.{object_row, row_of, system_of}
use Rattle.rx_set.proofs.Counts.{get_or-map_numbers}
use Rattle.rx_set.proofs.Ranks.{rank_bound}
use Rattle.rx_set.proofs.Readings.{items_read, part_here, part_valid, task_read}
use Rattle.rx_set.specs.Charges.{changes, can_spoil, is_exposed, level, level_by, where_passed, exposed_by, exposure}
use Rattle.rx_set.specs.Exposures.{AreKnown, IsKnown, IsLowest}

-- one more item of a body
pub one_more : (a b x y : Bool) → ((a || (b && x)) || (b && y)) ≡ (a || (b && (x || y)))
one_more true b x y = refl
one_more false true x y = refl
one_more false false x y = refl

pub none_yet : (a b : Bool) → a ≡ (a || (b && false))
none_yet true b = refl
none_yet false true = refl
none_yet false false = refl

-- one more task
pub any_next : (p : ℕ → Bool) (n : ℕ) → list_any p (numbers (n + 1)) ≡ (list_any p (numbers n) || p n)
any_next p n = rw add-one (list_any-append p (numbers n) (n ∷ []) ∙ ap (λ (x : Bool). list_any p (numbers n) || x) (or_false (p n)))
  where
    or_false : (x : Bool) → (x || false) ≡ x
    or_false true = refl
    or_false false = refl

-- no level is below the greatest number
pub none_lowest : (object most : ℕ) → object < 16 → most < 2 ^ 64 → nat_lt (get_or (replicate 16 (2 ^ 64 - 1)) object 0) most ≡ false
none_lowest object most inside few = ap (λ (x : ℕ). nat_lt x most) (alike 16 (2 ^ 64 - 1) object inside) ∙ above (2 ^ 64 - 1) most (omega (arith, few))
  where
    above : (x most : ℕ) → most ≤ x → nat_lt x most ≡ false
    above x most h = grind (arith, nat_tests)

    alike : (n x k : ℕ) → k < n → get_or (replicate n x) k 0 ≡ x
    alike zero x k h = absurd (omega (arith, h))
    alike (suc n) x zero h = refl
    alike (suc n) x (suc k) h = alike n x k (omega (arith, h))

-- the largest of numbers that are the same, and of small ones
pub largest_same : (f g : ℕ → ℕ) (n : ℕ) → ((k : ℕ) → k < n → f k ≡ g k) → largest f n ≡ largest g n
largest_same f g zero h = refl
largest_same f g (suc n) h = ap (λ (x : ℕ). larger x (f n)) (largest_same f g n (λ k less. h k (omega (arith, less)))) ∙ ap (larger (largest g n)) (h n (omega arith))

pub largest_few : (f : ℕ → ℕ) (n most : ℕ) → ((k : ℕ) → k < n → f k ≤ most) → largest f n ≤ most
largest_few f zero most h = omega arith
largest_few f (suc n) most h = either (largest f n) (f n) most (largest_few f n most (λ k less. h k (omega (arith, less)))) (h n (omega arith))
  where
    either : (x y most : ℕ) → x ≤ most → y ≤ most → larger x y ≤ most
    either x y most h g = grind (arith, nat_tests)

-- each of some numbers is at most the largest
pub largest_at : (f : ℕ → ℕ) (k n : ℕ) → k < n → f k ≤ largest f n
largest_at f k zero h = absurd (omega (arith, h))
largest_at f k (suc n) h = by_last (largest f n) (f n) (f k) (λ before. largest_at f k n before) (λ last. ap f last)
  where
    right : (x y z : ℕ) → z ≡ y → z ≤ larger x y
    right x y z e = grind (arith, nat_tests)

    left : (x y z : ℕ) → z ≤ x → z ≤ larger x y
    left x y z e = grind (arith, nat_tests)

    by_last : (x y z : ℕ) → (k < n → z ≤ x) → (k ≡ n → z ≡ y) → z ≤ larger x y
    by_last x y z before last = elim (Rattle.std.proofs.Math.Decide.dec_le n k) [
      | yes up ↦ right x y z (last (omega (arith, up, h)))
      | no low ↦ left x y z (before (omega (arith, low)))
    ]

-- a level is one of two numbers
level_few : (policy : Policy) (place deadline most : ℕ) → place ≤ most → deadline ≤ most → level_by policy place deadline ≤ most
level_few Rm place deadline most h g = h
level_few Dm place deadline most h g = h
level_few Edf place deadline most h g = g

known_item : (system : System) (objects : ℕ) (item : Item) → length system.objects ≤ objects → IsItem system item → IsKnown objects item
known_item system objects (Work ticks) few is = tt
known_item system objects (Op object call) few is = omega (arith, few, is.0)

-- what is read of the rows of a set
module _ (policy : Policy) (objects : List Object) (tasks : List Task) (valid : IsValid (system_of policy objects tasks [])) (k : ℕ) (known : k < length tasks) where
  pub task_known : k < length (system_of policy objects tasks []).tasks
  task_known = omega (arith, known, length-map tasks row_of)

  pub items_known : (count : ℕ) (task : Task) (items : List Item) → length objects ≤ count → task ≡ get_or tasks k task → items ≡ task.body → AreKnown count items
  items_known count task items few is same place item at =
      known_item (system_of policy objects tasks []) count item (omega (arith, few, length-map objects object_row))
      ((valid.tasks k task_known).items place item (ap (λ (xs : List Item). slice_get xs place) (sym (items_read policy objects tasks [] (system_of policy objects tasks []) k task items refl task_known is same)) ∙ at))

  pub level_read : (ranks : List ℕ) (most : ℕ) (task : Task) → ranks ≡ map (rank (system_of policy objects tasks [])) (numbers (length tasks)) → task ≡ get_or tasks k task → most ≡ level_by policy (get_or ranks k 0) task.deadline
      → most ≡ level (system_of policy objects tasks []) k
  level_read ranks most task all is e =
      e ∙ ap (λ (place : ℕ). level_by policy place task.deadline) (ap (λ (xs : List ℕ). get_or xs k 0) all ∙ get_or-map_numbers (rank (system_of policy objects tasks [])) (length tasks) k known)
      ∙ ap (λ (row : TaskRow). level_by policy (rank (system_of policy objects tasks []) k) row.deadline) (sym (task_read policy objects tasks [] k task known is))

  pub level_small : level (system_of policy objects tasks []) k ≤ 1000000
  level_small =
      let row = valid.tasks k task_known in
      level_few policy (rank (system_of policy objects tasks []) k) (task_at (system_of policy objects tasks []) k).deadline 1000000
      (omega (arith, (rank_bound (system_of policy objects tasks []) k task_known).1, valid.some_tasks.1)) (omega (arith, row.deadline.1, row.period.1))

  -- one more task
  pub lowest_next : (before after : List ℕ) (most : ℕ) (items : List Item) (task : Task) → IsLowest (system_of policy objects tasks []) k before → task ≡ get_or tasks k task → items ≡ task.body
      → most ≡ level (system_of policy objects tasks []) k
      → ((object above : ℕ) → object < 16 → nat_lt (get_or after object 0) above ≡ (nat_lt (get_or before object 0) above || (nat_lt most above && list_any (changes object) items)))
      → IsLowest (system_of policy objects tasks []) (k + 1) after
  lowest_next before after most items task h is same e noted object above inside few =
      noted object above inside
      ∙ ap (λ (x : Bool). x || (nat_lt most above && list_any (changes object) items)) (h object above inside few)
      ∙ ap (λ (x : ℕ). list_any (can_spoil (system_of policy objects tasks []) above object) (numbers k) || (nat_lt x above && list_any (changes object) items)) e
      ∙ ap (λ (xs : List Item). list_any (can_spoil (system_of policy objects tasks []) above object) (numbers k) || (nat_lt (level (system_of policy objects tasks []) k) above && list_any (changes object) xs))
      (items_read policy objects tasks [] (system_of policy objects tasks []) k task items refl task_known is same)
      ∙ sym (any_next (can_spoil (system_of policy objects tasks []) above object) k)

  -- the longest attempt of the task that can be spoiled
  pub exposure_is : (lowest : List ℕ) (most : ℕ) (items : List Item) (task : Task) → IsLowest (system_of policy objects tasks []) (length tasks) lowest → task ≡ get_or tasks k task → items ≡ task.body
      → most ≡ level (system_of policy objects tasks []) k
      → largest (λ place. exposed_by (λ object. nat_lt (get_or lowest object 0) most) (parts_of (system_of policy objects tasks [])) (slice_get items place)) (length items) ≡ exposure (system_of policy objects tasks []) k
  exposure_is lowest most items task h is same e =
      largest_same (λ place. exposed_by (λ object. nat_lt (get_or lowest object 0) most) parts (slice_get items place)) (λ place. exposed_by (is_exposed system (level system k)) parts (slice_get items place)) (length items)
      (λ place inside. by_item (slice_get items place) (λ item at. items_known 16 task items (omega (arith, valid.few_objects, length-map objects object_row)) is same place item at))
      ∙ ap (λ (xs : List Item). largest (λ place. exposed_by (is_exposed system (level system k)) parts (slice_get xs place)) (length xs)) (items_read policy objects tasks [] system k task items refl task_known is same)
    where
      system : System
      system = system_of policy objects tasks []

      parts : List Part
      parts = parts_of (system_of policy objects tasks [])

      by_item : (o : Option Item) → ((item : Item) → o ≡ Some item → IsKnown 16 item) → exposed_by (λ object. nat_lt (get_or lowest object 0) most) parts o ≡ exposed_by (is_exposed system (level system k)) parts o
      by_item None known_all = refl
      by_item (Some (Work ticks)) known_all = refl
      by_item (Some (Op object call)) known_all =
          ap (λ (x : Bool). where_passed x (attempt_steps (part_at parts object)))
          (h object most (known_all (Op object call) refl) (omega (arith, e, level_small))
          ∙ ap (λ (x : ℕ). list_any (can_spoil system x object) (numbers (length tasks))) e
          ∙ ap (λ (n : ℕ). list_any (can_spoil system (level system k) object) (numbers n)) (sym (length-map tasks row_of)))

-- an attempt on an object that is exposed
pub exposed_here : (objects : List Object) (lowest : List ℕ) (item : Item) (object : ℕ) (call : Call) (most steps : ℕ) (row : Object) → item ≡ Op object call → IsKnown (length objects) item → row ≡ get_or objects object row → get_or lowest object 0 < most
    → steps ≡ attempt_steps row.part → steps ≡ exposed_by (λ k. nat_lt (get_or lowest k 0) most) (parts_of (system_of Rm objects [] [])) (Some item)
exposed_here objects lowest item object call most steps row is known read below e =
    e ∙ ap attempt_steps (sym (part_here Rm objects [] [] object row (subst (IsKnown (length objects)) is known) read))
    ∙ ap (λ (x : Bool). where_passed x (attempt_steps (part_at (parts_of (system_of Rm objects [] [])) object))) (sym (lt-ltb (get_or lowest object 0) most below))
    ∙ ap (λ (x : Item). exposed_by (λ k. nat_lt (get_or lowest k 0) most) (parts_of (system_of Rm objects [] [])) (Some x)) (sym is)

pub part_good : (objects : List Object) (item : Item) (object : ℕ) (call : Call) (row : Object) → item ≡ Op object call → IsKnown (length objects) item → row ≡ get_or objects object row
    → ((k : ℕ) → k < length objects → IsPart (part_at (parts_of (system_of Rm objects [] [])) k)) → IsPart row.part
part_good objects item object call row is known read valid =
    let inside : object < length objects = subst (IsKnown (length objects)) is known in
    subst IsPart (part_here Rm objects [] [] object row inside read) (valid object inside)

-- an exposure is the ticks of one attempt at most, and so is a charge
pub exposure_few : (system : System) (task : ℕ) → IsValid system → task < length system.tasks → exposure system task ≤ 134
exposure_few system task valid known =
    largest_few (λ place. exposed_by (is_exposed system (level system task)) (parts_of system) (slice_get (task_at system task).items place)) (length (task_at system task).items) 134
    (λ place inside. by_item (slice_get (task_at system task).items place) (λ item at. (valid.tasks task known).items place item at))
  where
    where_few : (passed : Bool) (value : ℕ) → value ≤ 134 → where_passed passed value ≤ 134
    where_few true value few = few
    where_few false value few = omega arith

    by_item : (o : Option Item) → ((item : Item) → o ≡ Some item → IsItem system item) → exposed_by (is_exposed system (level system task)) (parts_of system) o ≤ 134
    by_item None all = omega arith
    by_item (Some (Work ticks)) all = omega arith
    by_item (Some (Op object call)) all =
        where_few (is_exposed system (level system task) object) (attempt_steps (part_at (parts_of system) object))
        (few_steps (part_at (parts_of system) object) (part_valid system object valid (all (Op object call) refl).0)).1

pub charge_few : (system : System) (test : ℕ → Bool) → IsValid system → largest (λ task. where_passed (test task) (exposure system task)) (length system.tasks) ≤ 134
charge_few system test valid = largest_few (λ task. where_passed (test task) (exposure system task)) (length system.tasks) 134 (λ task known. where_few (test task) (exposure system task) (exposure_few system task valid known))
  where
    where_few : (passed : Bool) (value : ℕ) → value ≤ 134 → where_passed passed value ≤ 134
    where_few true value few = few
    where_few false value few = omega arith

-- one more task in the search of the largest
pub larger_step : (f : ℕ → ℕ) (n most value next : ℕ) → next ≡ larger most value → most ≡ largest f n → value ≡ f n → next ≡ largest f (n + 1)
larger_step f n most value next is so_far e = is ∙ ap (λ (x : ℕ). larger x value) so_far ∙ ap (larger (largest f n)) e ∙ ap (largest f) (sym (add-one n))

pub larger_none : (x : ℕ) → x ≡ larger x 0
larger_none x = grind (arith, nat_tests)

-- as many tasks are shown as there are
pub tasks_shown : (policy : Policy) (objects : List Object) (tasks : List Task) (demands : List Demand) (shown : System) → system_of policy objects tasks demands ≡ shown → length tasks ≡ length shown.tasks
tasks_shown policy objects tasks demands shown is = sym (length-map tasks row_of) ∙ ap (λ (s : System). length s.tasks) is

-- a valid set is so without its demand rows
pub valid_alone : (policy : Policy) (objects : List Object) (tasks : List Task) (demands : List Demand) → IsValid (system_of policy objects tasks demands) → IsValid (system_of policy objects tasks [])
valid_alone policy objects tasks demands valid = record {
  some_tasks = valid.some_tasks;
  few_objects = valid.few_objects;
  few_demands = omega arith;
  tasks = λ task known. let row = valid.tasks task known in record { name = row.name; period = row.period; deadline = row.deadline; offset = row.offset; some_items = row.some_items; items = λ place item at. same_item item (row.items place item at) };
  objects = valid.objects;
  demands = λ place row at. absurd (none_here place row at);
  task_names = valid.task_names;
  object_names = valid.object_names;
  one_demand = λ a b order inside. absurd (omega (arith, inside));
}
  where
    same_item : (item : Item) → IsItem (system_of policy objects tasks demands) item → IsItem (system_of policy objects tasks []) item
    same_item (Work ticks) is = is
    same_item (Op object call) is = is

    no_rows : List Demand
    no_rows = []

    none_here : (place : ℕ) (row : Demand) → slice_get no_rows place ≡ Some row → ⊥
    none_here place row at = absurd (let inside : place < 0 = slice_get_within no_rows place row at in omega (arith, inside))
