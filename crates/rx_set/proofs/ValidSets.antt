-- Each set that is drawn is valid, and what else is so of all of them.
use Rattle.std.proofs.Common.{ℕ, zero, suc, ◌≡◌, ◌≤◌, ◌<◌, ◌+◌, ◌*◌, true, false, List, [], ◌∷◌, ◌++◌, length, get_or, map, Some, sym, ap, ◌∙◌, arith, refl}
use Rattle.std.specs.Prelude.{slice_get}
use Rattle.std.specs.List.{All}
use Rattle.std.proofs.lemmas.Bool.Decides.{nat_tests}
use Rattle.std.proofs.lemmas.List.{map-append}
use Rattle.std.proofs.lemmas.List.Elements.{All-nil, All-push}
use Rattle.rx_seq.specs.declared.calls.Call.TheVariants.{Add, Put, Take, Insert, Remove}
use Rattle.rx_set.specs.declared.policies.Policy.{Policy}
use Rattle.rx_set.specs.declared.items.Item.{Item}
use Rattle.rx_set.specs.declared.items.Item.TheVariants.{Work, Op}
use Rattle.rx_set.specs.Names.{is_name, has_repeat}
use Rattle.rx_set.specs.System.{System, TaskRow, no_task, task_at, numbers}
use Rattle.rx_set.specs.Valid.{IsValid, KeepsCosts, IsItem, IsObjectRow, IsTaskRow, task_name}
use Rattle.rx_set.specs.Generator.{Drawn, draw, in_turn, four_objects, with_number, with_none, work, ways, transaction, item_drawn, name_of, task_drawn, policy_drawn, set_drawn, seeded, generated}
use Rattle.rx_set.proofs.Draws.{draw_below, length_in_turn}
use Rattle.rx_set.proofs.Elements.{at_place}

-- a set of the four objects
abbrev around : Policy → List TaskRow → System
around policy tasks = record { policy = policy; objects = four_objects; tasks = tasks; demands = [] }

-- what each of them is, all are
each_drawn : {A : Type 0} (P : A → Type 0) (thing : ℕ → List ℕ → Drawn A) (n : ℕ) → ((k : ℕ) (state : List ℕ) → k < n → P (thing k state).value)
    → (state : List ℕ) → All P (in_turn thing n state).value
each_drawn P thing zero good state = All-nil P
each_drawn P thing (suc n) good state =
    let earlier = in_turn thing n state in
    All-push P earlier.value (thing n earlier.after).value (each_drawn P thing n (λ k s h. good k s (omega arith)) state) (good n earlier.after (omega arith))

none_at : {X : Type 0} (place : ℕ) (x : X) → slice_get [] place ≡ Some x → ⊥
none_at place x e = cc

-- a way that draws items of such a set
abbrev IsWay : System → (List ℕ → Drawn Item) → Type 0
IsWay system way = (state : List ℕ) → IsItem system (way state).value

number_good : (system : System) (m : ℕ) (item : ℕ → Item) → 0 < m → ((n : ℕ) → n < m → IsItem system (item n)) → IsWay system (with_number m item)
number_good system m item some good state = good (draw m state).value (draw_below m state some)

work_good : (policy : Policy) (tasks : List TaskRow) (n : ℕ) → n < 5 → IsItem (around policy tasks) (Work (1 + n))
work_good policy tasks n h = (omega arith, omega arith)

add_good : (policy : Policy) (tasks : List TaskRow) (n : ℕ) → n < 9 → IsItem (around policy tasks) (Op 0 (Add (1 + n)))
add_good policy tasks n h = (omega arith, grind (arith, nat_tests))

put_good : (policy : Policy) (tasks : List TaskRow) (n : ℕ) → n < 100 → IsItem (around policy tasks) (Op 1 (Put n))
put_good policy tasks n h = (omega arith, grind (arith, nat_tests))

insert_good : (policy : Policy) (tasks : List TaskRow) (n : ℕ) → n < 16 → IsItem (around policy tasks) (Op 2 (Insert n))
insert_good policy tasks n h = (omega arith, grind (arith, nat_tests))

remove_good : (policy : Policy) (tasks : List TaskRow) (n : ℕ) → n < 16 → IsItem (around policy tasks) (Op 2 (Remove n))
remove_good policy tasks n h = (omega arith, grind (arith, nat_tests))

transaction_good : (policy : Policy) (tasks : List TaskRow) → IsWay (around policy tasks) transaction
transaction_good policy tasks state =
    let s1 = (draw 4 state).after in
    let s2 = (draw 2 s1).after in
    let register = draw_below 4 state (omega arith) in
    let expected = draw_below 2 s1 (omega arith) in
    let written = draw_below 2 s2 (omega arith) in
    (omega arith, grind (arith, nat_tests))

take_good : (policy : Policy) (tasks : List TaskRow) → IsWay (around policy tasks) (with_none (Op 1 Take))
take_good policy tasks state = (omega arith, refl)

way_good : (policy : Policy) (tasks : List TaskRow) (way : ℕ) → way < 8 → IsWay (around policy tasks) (get_or ways way work)
way_good policy tasks zero h = number_good (around policy tasks) 5 (λ n. Work (1 + n)) (omega arith) (work_good policy tasks)
way_good policy tasks (suc zero) h = number_good (around policy tasks) 5 (λ n. Work (1 + n)) (omega arith) (work_good policy tasks)
way_good policy tasks (suc (suc zero)) h = number_good (around policy tasks) 9 (λ n. Op 0 (Add (1 + n))) (omega arith) (add_good policy tasks)
way_good policy tasks (suc (suc (suc zero))) h = number_good (around policy tasks) 100 (λ n. Op 1 (Put n)) (omega arith) (put_good policy tasks)
way_good policy tasks (suc (suc (suc (suc zero)))) h = take_good policy tasks
way_good policy tasks (suc (suc (suc (suc (suc zero))))) h = number_good (around policy tasks) 16 (λ n. Op 2 (Insert n)) (omega arith) (insert_good policy tasks)
way_good policy tasks (suc (suc (suc (suc (suc (suc zero)))))) h = number_good (around policy tasks) 16 (λ n. Op 2 (Remove n)) (omega arith) (remove_good policy tasks)
way_good policy tasks (suc (suc (suc (suc (suc (suc (suc zero))))))) h = transaction_good policy tasks
way_good policy tasks (suc (suc (suc (suc (suc (suc (suc (suc n)))))))) h = absurd (omega arith)

item_good : (policy : Policy) (tasks : List TaskRow) (state : List ℕ) → IsItem (around policy tasks) (item_drawn state).value
unfolding item_drawn
item_good policy tasks state =
    let way = draw 8 state in
    way_good policy tasks way.value (draw_below 8 state (omega arith)) way.after

name_good : (number : ℕ) → number ≤ 9 → is_name (name_of number) ≡ true
name_good number h = grind (arith, nat_tests)

task_good : (policy : Policy) (tasks : List TaskRow) (place : ℕ) (state : List ℕ) → place < 9 → IsTaskRow (around policy tasks) (task_drawn place state).value
unfolding task_drawn
task_good policy tasks place state few =
    let s1 = (draw 50 state).after in
    let s2 = (draw 100 s1).after in
    let s3 = (draw 4 s2).after in
    let more = (draw 4 s2).value in
    let span_below = draw_below 50 state (omega arith) in
    let start_below = draw_below 100 s1 (omega arith) in
    let more_below = draw_below 4 s2 (omega arith) in
    let count = length_in_turn (λ _. item_drawn) (1 + more) s3 in
    let body = (in_turn (λ _. item_drawn) (1 + more) s3).value in
    record {
      name = name_good (place + 1) (omega arith);
      period = (omega arith, omega (arith, span_below));
      deadline = (omega arith, omega arith);
      offset = omega (arith, start_below);
      some_items = (omega (arith, count), omega (arith, count, more_below));
      items = λ k item is.
          at_place (IsItem (around policy tasks)) body k item
          (each_drawn (IsItem (around policy tasks)) (λ _. item_drawn) (1 + more) (λ j s h. item_good policy tasks s) s3) is;
    }

-- the names of the tasks
abbrev nth_name : ℕ → List ℕ
nth_name place = name_of (place + 1)

names_drawn : (n : ℕ) (state : List ℕ) → map task_name (in_turn task_drawn n state).value ≡ map nth_name (numbers n)
unfolding task_drawn
names_drawn zero state = refl
names_drawn (suc n) state =
    let earlier = in_turn task_drawn n state in
    map-append task_name earlier.value ((task_drawn n earlier.after).value ∷ [])
    ∙ ap (λ (names : List (List ℕ)). names ++ nth_name n ∷ []) (names_drawn n state)
    ∙ sym (map-append nth_name (numbers n) (n ∷ []))

names_apart : (more : ℕ) → more < 5 → has_repeat (map nth_name (numbers (4 + more))) ≡ false
names_apart zero h = refl
names_apart (suc zero) h = refl
names_apart (suc (suc zero)) h = refl
names_apart (suc (suc (suc zero))) h = refl
names_apart (suc (suc (suc (suc zero)))) h = refl
names_apart (suc (suc (suc (suc (suc n))))) h = absurd (omega arith)

objects_good : All IsObjectRow four_objects
objects_good zero row h = record { name = refl; part = refl }
objects_good (suc zero) row h = record { name = refl; part = (omega arith, omega arith) }
objects_good (suc (suc zero)) row h = record { name = refl; part = (omega arith, omega arith) }
objects_good (suc (suc (suc zero))) row h = record { name = refl; part = (omega arith, omega arith) }
objects_good (suc (suc (suc (suc k)))) row h = absurd (omega arith)

pub set_valid : (state : List ℕ) → IsValid (set_drawn state)
unfolding set_drawn
set_valid state =
    let rule = policy_drawn state in
    let more = (draw 5 rule.after).value in
    let here = (draw 5 rule.after).after in
    let more_below = draw_below 5 rule.after (omega arith) in
    let count = length_in_turn task_drawn (4 + more) here in
    let tasks = (in_turn task_drawn (4 + more) here).value in
    record {
      some_tasks = (omega (arith, count), omega (arith, count, more_below));
      few_objects = omega arith;
      few_demands = omega arith;
      tasks = λ task within.
          each_drawn (IsTaskRow (around rule.value tasks)) task_drawn (4 + more) (λ k s h. task_good rule.value tasks k s (omega (arith, h, more_below))) here task no_task within;
      objects = λ place row e. at_place IsObjectRow four_objects place row objects_good e;
      demands = λ place row e. absurd (none_at place row e);
      task_names = ap has_repeat (names_drawn (4 + more) here) ∙ names_apart more more_below;
      object_names = refl;
      one_demand = λ a b first within. absurd (omega arith);
    }

pub generated_valid : (number : ℕ) → IsValid (generated number)
unfolding generated
generated_valid number = set_valid (seeded number)

-- how many tasks there are, and that no demand row has more ticks than its item states
pub generated_few : (number : ℕ) → length (generated number).tasks ≤ 8
unfolding generated set_drawn
generated_few number =
    let rule = policy_drawn (seeded number) in
    let more = draw 5 rule.after in
    omega (arith, length_in_turn task_drawn (4 + more.value) more.after, draw_below 5 rule.after (omega arith))

pub generated_keeps : (number : ℕ) → KeepsCosts (generated number)
unfolding generated set_drawn
generated_keeps number = record { each = λ place row stated at is. absurd (none_at place row at) }

-- the deadline of a row is its period, which is some times 20
abbrev IsSpan : TaskRow → Type 0
IsSpan row = (row.deadline ≡ row.period) × ((n : ℕ) × (1 ≤ n) × (n ≤ 50) × (row.period ≡ 20 * n))

span_good : (place : ℕ) (state : List ℕ) → IsSpan (task_drawn place state).value
unfolding task_drawn
span_good place state = (refl, (1 + (draw 50 state).value, omega arith, omega (arith, draw_below 50 state (omega arith)), refl))

pub generated_span : (number task : ℕ) → task < length (generated number).tasks → IsSpan (task_at (generated number) task)
unfolding generated set_drawn
generated_span number task within =
    let rule = policy_drawn (seeded number) in
    let more = draw 5 rule.after in
    each_drawn IsSpan task_drawn (4 + more.value) (λ k state h. span_good k state) more.after task no_task within
