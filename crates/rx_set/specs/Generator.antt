-- The set that is drawn from a number. Each choice is a word of one generator, xoshiro256++ (Blackman and Vigna), modulo
-- a limit, and the words are taken one after the other.
use Rattle.std.specs.Prelude.{ℕ, zero, suc, ◌+◌, ◌*◌, ◌%◌, ◌==◌, if◌then◌else◌, List, [], ◌∷◌, ◌++◌, get_or, codes}
use Rattle.rand_xoshiro.specs.SplitMix64.{splitmix_seed}
use Rattle.rand_xoshiro.specs.Xoshiro256.{of_seed, plus_plus}
use Rattle.rx_seq.specs.declared.kinds.Kind.{Kind}
use Rattle.rx_seq.specs.declared.kinds.Kind.TheVariants.{Cell, Queue, Registers, List as Ordered}
use Rattle.rx_seq.specs.declared.calls.Row.{Row}
use Rattle.rx_seq.specs.declared.calls.Call.TheVariants.{Add, Put, Take, Insert, Remove, Multi}
use Rattle.rx_set.specs.declared.policies.Policy.{Policy}
use Rattle.rx_set.specs.declared.policies.Policy.TheVariants.{Rm, Edf}
use Rattle.rx_set.specs.declared.items.Item.{Item}
use Rattle.rx_set.specs.declared.items.Item.TheVariants.{Work, Op}
use Rattle.rx_set.specs.System.{System, ObjectRow, TaskRow}

-- something drawn, and the generator's state after it
pub record Drawn (A : Type 0) : Type 0 where
  pub value : A
  pub after : List ℕ

-- the state of xoshiro256++ that SplitMix64 makes of a number
unfoldable pub seeded : ℕ → List ℕ
seeded number = of_seed (splitmix_seed 32 number)

-- the next word modulo a limit
unfoldable pub draw : ℕ → List ℕ → Drawn ℕ
draw m state = record { value = (plus_plus state).0 % m; after = (plus_plus state).1 }

-- so many things, each drawn after the last; `thing` is told its place, from 0
abbrev pub in_turn : {A : Type 0} → (ℕ → List ℕ → Drawn A) → ℕ → List ℕ → Drawn (List A)
in_turn thing zero state = record { value = []; after = state }
in_turn thing (suc n) state =
    let earlier = in_turn thing n state in
    let last = thing n earlier.after in
    record { value = earlier.value ++ last.value ∷ []; after = last.after }

-- the policy: rate monotonic, or earliest deadline first
abbrev pub policy_drawn : List ℕ → Drawn Policy
policy_drawn state = let coin = draw 2 state in record { value = if coin.value == 0 then Rm else Edf; after = coin.after }

-- an object of this name, kind and capacity
abbrev pub object_named : List ℕ → Kind → ℕ → ObjectRow
object_named text kind cap = record { name = text; part = record { kind = kind; cap = cap } }

-- the objects are always these: c, a cell; q, a queue of 4; l, a list of 8; r, 4 registers
abbrev pub four_objects : List ObjectRow
four_objects =
    object_named (codes "c") Cell 1
    ∷ object_named (codes "q") Queue 4
    ∷ object_named (codes "l") Ordered 8
    ∷ object_named (codes "r") Registers 4 ∷ []

-- an item with a number below m in it, and one with no number
abbrev pub with_number : ℕ → (ℕ → Item) → List ℕ → Drawn Item
with_number m item state = let number = draw m state in record { value = item number.value; after = number.after }

abbrev pub with_none : Item → List ℕ → Drawn Item
with_none item state = record { value = item; after = state }

-- work of 1 to 5 ticks
abbrev pub work : List ℕ → Drawn Item
work = with_number 5 (λ n. Work (1 + n))

-- a row of zeros
abbrev pub no_change : Row
no_change = record { i = 0; old = 0; new = 0 }

-- a transaction on one register, with its old value and its new one
abbrev pub transaction : List ℕ → Drawn Item
transaction state =
    let register = draw 4 state in
    let expected = draw 2 register.after in
    let written = draw 2 expected.after in
    let change : Row = record { i = register.value; old = expected.value; new = written.value } in
    record { value = Op 3 (Multi 1 (change ∷ no_change ∷ no_change ∷ no_change ∷ [])); after = written.after }

-- eight ways to draw an item, of which two are work; an item, which is drawn one of these ways
abbrev pub ways : List (List ℕ → Drawn Item)
ways =
    work
    ∷ work
    ∷ with_number 9 (λ n. Op 0 (Add (1 + n)))
    ∷ with_number 100 (λ n. Op 1 (Put n))
    ∷ with_none (Op 1 Take)
    ∷ with_number 16 (λ n. Op 2 (Insert n))
    ∷ with_number 16 (λ n. Op 2 (Remove n))
    ∷ transaction ∷ []

unfoldable pub item_drawn : List ℕ → Drawn Item
item_drawn state = let way = draw 8 state in get_or ways way.value work way.after

-- the name of a task is t and its number, which has one digit
abbrev pub name_of : ℕ → List ℕ
name_of number = codes "t" ++ (48 + number) ∷ []

-- the task at a place, from 0: a period of 20 to 1,000 ticks, which is its deadline too, an offset below 100, and one
-- to four items
unfoldable pub task_drawn : ℕ → List ℕ → Drawn TaskRow
task_drawn place state =
    let span = draw 50 state in
    let start = draw 100 span.after in
    let more = draw 4 start.after in
    let body = in_turn (λ _. item_drawn) (1 + more.value) more.after in
    record {
      value = record {
        name = name_of (place + 1);
        period = 20 * (1 + span.value);
        deadline = 20 * (1 + span.value);
        offset = start.value;
        items = body.value;
      };
      after = body.after;
    }

-- the set that is drawn from a state on: its policy, and then four to eight tasks. There are no demand rows
unfoldable pub set_drawn : List ℕ → System
set_drawn state =
    let rule = policy_drawn state in
    let more = draw 5 rule.after in
    record {
      policy = rule.value;
      objects = four_objects;
      tasks = (in_turn task_drawn (4 + more.value) more.after).value;
      demands = [];
    }

-- the set of a number
unfoldable pub generated : ℕ → System
generated number = set_drawn (seeded number)
