-- The shape of an object of any kind: what it tells is what the shape of its form tells.
use Rattle.std.specs.Prelude.{ℕ, ◌≡◌, ◌≤◌, ◌+◌, true, List, [], length}
use Rattle.rx_seq.specs.declared.calls.Call.{Call}
use Rattle.rx_seq.specs.Table.{IsPart, fits_part}
use Rattle.rx_shape.specs.declared.homes.Home.{Home}
use Rattle.rx_shape.specs.declared.plans.Taken.{Taken}
use Rattle.rx_shape.specs.declared.plans.Want.{Want}
use Rattle.rx_shape.specs.declared.plans.Want.TheVariants.{Ready}
use Rattle.rx_shape.specs.Walks.{at_run, next_want}
use Rattle.rx_shape.specs.declared.steps.Step.TheVariants.{Open}
use Rattle.rx_shape.specs.Words.{low_of}
use Rattle.rx_nodes.specs.Chains.{IsOpen, taken_as, want_as}
use Rattle.rx_machine.specs.declared.any_shape.AnyShape.{AnyShape}
use Rattle.rx_machine.specs.declared.any_shape.AnyShape.TheVariants.{Cell, Block, Linked}

-- the objects and calls that it serves. Each of the object's places is a low part, and none is the one that means none
abbrev pub IsServed : Home → Call → Type 0
IsServed home call = IsPart home.part × (fits_part home.part call ≡ true) × (home.first + home.count ≤ 16777215)

-- the object and the call of a shape
abbrev pub any_home : AnyShape → Home
any_home (Cell shape) = shape.home
any_home (Block shape) = shape.home
any_home (Linked shape) = shape.home

abbrev pub any_asked : AnyShape → Call
any_asked (Cell shape) = shape.call
any_asked (Block shape) = shape.call
any_asked (Linked shape) = shape.call

-- what a shape wants next, the words that it has taken, and whether its walk over a block, if it is one, takes more
abbrev pub any_next : AnyShape → ℕ → Want
any_next (Cell shape) root = Ready
any_next (Block shape) root = next_want shape.home shape.step (low_of root) (length shape.words.items)
any_next (Linked shape) root = want_as shape.step root shape.head

abbrev pub any_taken : AnyShape → ℕ → List Taken
any_taken (Cell shape) root = []
any_taken (Block shape) root = at_run (low_of root) shape.words.items
any_taken (Linked shape) root = taken_as shape.step root shape.head shape.nodes.items

abbrev pub any_room : AnyShape → Type 0
any_room (Cell shape) = Unit {0}
any_room (Block shape) = shape.step ≡ Open
any_room (Linked shape) = IsOpen shape.step
