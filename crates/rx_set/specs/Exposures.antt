-- What is found on the way to the exposures of tasks.
use Rattle.std.specs.Prelude.{ℕ, ◌≡◌, ◌<◌, ◌^◌, nat_lt, List, get_or, slice_get, Some}
use Rattle.std.specs.List.{list_any}
use Rattle.rx_set.specs.declared.items.Item.{Item}
use Rattle.rx_set.specs.declared.items.Item.TheVariants.{Work, Op}
use Rattle.rx_set.specs.Charges.{can_spoil}
use Rattle.rx_set.specs.System.{System, numbers}

-- the object that an item calls is one of so many, and so is that of each item of a body
abbrev pub IsKnown : ℕ → Item → Type 0
IsKnown objects (Work ticks) = Unit {0}
IsKnown objects (Op object call) = object < objects

abbrev pub AreKnown : ℕ → List Item → Type 0
AreKnown objects items = (place : ℕ) (item : Item) → slice_get items place ≡ Some item → IsKnown objects item

-- for each of 16 objects the lowest level of one of the first tasks that may change it: it is below a level exactly where one
-- of them is that may
abbrev pub IsLowest : System → ℕ → List ℕ → Type 0
IsLowest system tasks lowest = (object most : ℕ) → object < 16 → most < 2 ^ 64 → nat_lt (get_or lowest object 0) most ≡ list_any (can_spoil system most object) (numbers tasks)
