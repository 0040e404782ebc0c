-- What is drawn, one thing after the other.
use Rattle.std.proofs.Common.{ℕ, zero, suc, ◌≡◌, ◌<◌, ◌+◌, ◌*◌, List, [], ◌∷◌, ◌++◌, length, get_or, add-one, sym, subst, ap, ◌∙◌, arith, refl, length-append}
use Rattle.std.proofs.lemmas.Nat.{mod_below}
use Rattle.rand_xoshiro.specs.SplitMix64.{splitmix_seed}
use Rattle.rand_xoshiro.specs.Xoshiro256.{of_seed, plus_plus}
use Rattle.rx_set.specs.declared.policies.Policy.{Policy}
use Rattle.rx_set.specs.declared.items.Item.{Item}
use Rattle.rx_set.specs.declared.demands.Demand.{Demand}
use Rattle.rx_set.specs.System.{System, ObjectRow, TaskRow}
use Rattle.rx_set.specs.Generator.{Drawn, draw, in_turn, four_objects, with_number, work, ways, item_drawn, name_of, task_drawn, policy_drawn, set_drawn, seeded, generated}

pub draw_below : (m : ℕ) (state : List ℕ) → 0 < m → (draw m state).value < m
unfolding draw
draw_below m state some = mod_below (plus_plus state).0 m some

pub length_in_turn : {A : Type 0} (thing : ℕ → List ℕ → Drawn A) (n : ℕ) (state : List ℕ) → length (in_turn thing n state).value ≡ n
length_in_turn thing zero state = refl
length_in_turn thing (suc n) state =
    let earlier = in_turn thing n state in
    omega (arith, length_in_turn thing n state, length-append earlier.value ((thing n earlier.after).value ∷ []))

-- these are the first n things, and the state after them
abbrev pub AreDrawn : {A : Type 0} → (ℕ → List ℕ → Drawn A) → ℕ → List ℕ → List A → List ℕ → Type 0
AreDrawn thing n start xs state = (xs ≡ (in_turn thing n start).value) × (state ≡ (in_turn thing n start).after)

-- one more thing is drawn
pub one_more : {A : Type 0} (thing : ℕ → List ℕ → Drawn A) (n : ℕ) (start state after : List ℕ) (xs ys : List A) (x : A) → AreDrawn thing n start xs state
    → x ≡ (thing n state).value → after ≡ (thing n state).after → ys ≡ xs ++ x ∷ [] → AreDrawn thing (n + 1) start ys after
one_more {A} thing n start state after xs ys x so_far x_is after_is pushed =
    let earlier = in_turn thing n start in
    let last : x ≡ (thing n earlier.after).value = x_is ∙ ap (λ s. (thing n s).value) so_far.1 in
    let values : ys ≡ earlier.value ++ (thing n earlier.after).value ∷ [] =
    pushed ∙ ap (λ (zs : List A). zs ++ x ∷ []) so_far.0 ∙ ap (λ (z : A). earlier.value ++ z ∷ []) last in
    let states : after ≡ (thing n earlier.after).after = after_is ∙ ap (λ s. (thing n s).after) so_far.1 in
    subst (λ (k : ℕ). AreDrawn thing k start ys after) (sym (add-one n)) (values, states)

-- the item that a way draws
pub at_way : (state here : List ℕ) (way k : ℕ) (drawn : Drawn Item) → way ≡ (draw 8 state).value → here ≡ (draw 8 state).after → way ≡ k
    → get_or ways k work here ≡ drawn → item_drawn state ≡ drawn
unfolding item_drawn
at_way state here way k drawn way_is here_is at means =
    ap (λ (n : ℕ). get_or ways n work (draw 8 state).after) (sym way_is ∙ at) ∙ ap (λ (s : List ℕ). get_or ways k work s) (sym here_is) ∙ means

-- the item and the state after it are the drawn ones
abbrev pub AreItemDrawn : List ℕ → Item → List ℕ → Type 0
AreItemDrawn state item after = (item ≡ (item_drawn state).value) × (after ≡ (item_drawn state).after)

pub as_drawn : (state here after : List ℕ) (way k : ℕ) (drawn : Drawn Item) (item : Item) → way ≡ (draw 8 state).value → here ≡ (draw 8 state).after → way ≡ k
    → get_or ways k work here ≡ drawn → item ≡ drawn.value → after ≡ drawn.after → AreItemDrawn state item after
as_drawn state here after way k drawn item way_is here_is at means item_is after_is =
    let is = at_way state here way k drawn way_is here_is at means in
    (item_is ∙ sym (ap (λ (d : Drawn Item). d.value) is), after_is ∙ sym (ap (λ (d : Drawn Item). d.after) is))

-- an item with a number in it
pub numbered : (state here after : List ℕ) (way k m number : ℕ) (make : ℕ → Item) (item : Item) → way ≡ (draw 8 state).value → here ≡ (draw 8 state).after → way ≡ k
    → get_or ways k work here ≡ with_number m make here → number ≡ (draw m here).value → after ≡ (draw m here).after → item ≡ make number
    → AreItemDrawn state item after
numbered state here after way k m number make item way_is here_is at means number_is after_is item_is =
    as_drawn state here after way k (with_number m make here) item way_is here_is at means (item_is ∙ ap make number_is) after_is

-- the first two ways draw work
pub work_first : (way : ℕ) (here : List ℕ) → way < 2 → get_or ways way work here ≡ work here
work_first zero here h = refl
work_first (suc zero) here h = refl
work_first (suc (suc n)) here h = absurd (omega arith)

abbrev task_of_parts : List ℕ → ℕ → ℕ → List Item → TaskRow
task_of_parts name span start items = record { name = name; period = 20 * (1 + span); deadline = 20 * (1 + span); offset = start; items = items }

abbrev body_drawn : ℕ → List ℕ → Drawn (List Item)
body_drawn more state = in_turn (λ _. item_drawn) (1 + more) state

-- a task that is made of its draws
pub task_made : (place : ℕ) (state one two three after name : List ℕ) (span start more : ℕ) (items : List Item)
    → span ≡ (draw 50 state).value → one ≡ (draw 50 state).after → start ≡ (draw 100 one).value → two ≡ (draw 100 one).after
    → more ≡ (draw 4 two).value → three ≡ (draw 4 two).after → name ≡ name_of (place + 1)
    → AreDrawn (λ _. item_drawn) (1 + more) three items after
    → (task_of_parts name span start items ≡ (task_drawn place state).value) × (after ≡ (task_drawn place state).after)
unfolding task_drawn
task_made place state one two three after name span start more items span_is one_is start_is two_is more_is three_is name_is drawn =
    let s1 = (draw 50 state).after in
    let s2 = (draw 100 s1).after in
    let span_at = (draw 50 state).value in
    let start_at = (draw 100 s1).value in
    let more_at = (draw 4 s2).value in
    let starts : start ≡ start_at = start_is ∙ ap (λ (s : List ℕ). (draw 100 s).value) one_is in
    let second : two ≡ s2 = two_is ∙ ap (λ (s : List ℕ). (draw 100 s).after) one_is in
    let mores : more ≡ more_at = more_is ∙ ap (λ (s : List ℕ). (draw 4 s).value) second in
    let third : three ≡ (draw 4 s2).after = three_is ∙ ap (λ (s : List ℕ). (draw 4 s).after) second in
    let body : body_drawn more three ≡ body_drawn more_at (draw 4 s2).after =
    ap (λ (n : ℕ). body_drawn n three) mores ∙ ap (λ (s : List ℕ). body_drawn more_at s) third in
    let items_is : items ≡ (body_drawn more_at (draw 4 s2).after).value = drawn.0 ∙ ap (λ (d : Drawn (List Item)). d.value) body in (
      ap (λ (n : List ℕ). task_of_parts n span start items) name_is
          ∙ ap (λ (n : ℕ). task_of_parts (name_of (place + 1)) n start items) span_is
          ∙ ap (λ (n : ℕ). task_of_parts (name_of (place + 1)) span_at n items) starts
          ∙ ap (λ (xs : List Item). task_of_parts (name_of (place + 1)) span_at start_at xs) items_is,
      drawn.1 ∙ ap (λ (d : Drawn (List Item)). d.after) body,
    )

abbrev set_of_parts : Policy → List ObjectRow → List TaskRow → List Demand → System
set_of_parts policy objects tasks demands = record { policy = policy; objects = objects; tasks = tasks; demands = demands }

-- a set that is made of its draws
pub set_made : (state one two : List ℕ) (policy : Policy) (more : ℕ) (objects : List ObjectRow) (tasks : List TaskRow) (demands : List Demand)
    → policy ≡ (policy_drawn state).value → one ≡ (policy_drawn state).after → more ≡ (draw 5 one).value → two ≡ (draw 5 one).after
    → objects ≡ four_objects → tasks ≡ (in_turn task_drawn (4 + more) two).value → demands ≡ []
    → set_of_parts policy objects tasks demands ≡ set_drawn state
unfolding set_drawn
set_made state one two policy more objects tasks demands policy_is one_is more_is two_is objects_is tasks_is demands_is =
    let rule = policy_drawn state in
    let mores : more ≡ (draw 5 rule.after).value = more_is ∙ ap (λ (s : List ℕ). (draw 5 s).value) one_is in
    let second : two ≡ (draw 5 rule.after).after = two_is ∙ ap (λ (s : List ℕ). (draw 5 s).after) one_is in
    let all : tasks ≡ (in_turn task_drawn (4 + (draw 5 rule.after).value) (draw 5 rule.after).after).value =
    tasks_is ∙ ap (λ (n : ℕ). (in_turn task_drawn (4 + n) two).value) mores
    ∙ ap (λ (s : List ℕ). (in_turn task_drawn (4 + (draw 5 rule.after).value) s).value) second in
    ap (λ (p : Policy). set_of_parts p objects tasks demands) policy_is
    ∙ ap (λ (xs : List ObjectRow). set_of_parts rule.value xs tasks demands) objects_is
    ∙ ap (λ (xs : List TaskRow). set_of_parts rule.value four_objects xs demands) all
    ∙ ap (λ (xs : List Demand). set_of_parts rule.value four_objects (in_turn task_drawn (4 + (draw 5 rule.after).value) (draw 5 rule.after).after).value xs) demands_is

pub generated_made : (number : ℕ) (state one two : List ℕ) (policy : Policy) (more : ℕ) (objects : List ObjectRow) (tasks : List TaskRow) (demands : List Demand)
    → state ≡ of_seed (splitmix_seed 32 number) → policy ≡ (policy_drawn state).value → one ≡ (policy_drawn state).after → more ≡ (draw 5 one).value → two ≡ (draw 5 one).after
    → objects ≡ four_objects → tasks ≡ (in_turn task_drawn (4 + more) two).value → demands ≡ []
    → set_of_parts policy objects tasks demands ≡ generated number
unfolding seeded generated
generated_made number state one two policy more objects tasks demands seeds policy_is one_is more_is two_is objects_is tasks_is demands_is =
    set_made state one two policy more objects tasks demands policy_is one_is more_is two_is objects_is tasks_is demands_is ∙ ap set_drawn seeds
