-- What a lane has made.
use Rattle.std.specs.Prelude.{ℕ, ◌≡◌, ◌+◌, ◌<◌, ◌≤◌, ◌^◌, ◌⊎◌, true, List, [], ◌++◌, length, map, reverse, slice_get, Some, vec_capacity, Vec}
use Rattle.std.specs.declared.alloc.Global.{Global}
use Rattle.rx_seq.specs.declared.kinds.Part.{Part}
use Rattle.rx_seq.specs.declared.entries.Entry.{Entry}
use Rattle.rx_seq.specs.History.{part_at}
use Rattle.rx_seq.specs.Table.{fits_part}
use Rattle.rx_set.specs.declared.items.Item.{Item}
use Rattle.rx_set.specs.declared.items.Item.TheVariants.{Work, Op}
use Rattle.rx_set.specs.System.{System}
use Rattle.rx_shape.specs.Layout.{Layout}
use Rattle.rx_port.specs.Core.{tag_after}
use Rattle.rx_port.specs.declared.views.Known.{Known}
use Rattle.rx_table.specs.Tables.{SharedTable, SeatView, IsSeatOf}
use Rattle.rx_set.specs.Operations.{Asked, asked_of}
use Rattle.rx_lanes.specs.declared.answers.Answer.{Answer}
use Rattle.rx_lanes.specs.declared.lanes.Lane.{Lane}
use Rattle.rx_lanes.specs.Scripts.{lane_script}
use Rattle.rx_lanes.specs.Lists.{answer_of}

-- an item asks for nothing, or for a call that fits an object that is there
abbrev pub CanMake : List Part → Item → Type 0
CanMake parts (Work ticks) = Unit {0}
CanMake parts (Op object call) = (object < length parts) × (fits_part (part_at parts object) call ≡ true)

abbrev pub CanMakeAll : List Part → List Item → Type 0
CanMakeAll parts items = (place : ℕ) (item : Item) → slice_get items place ≡ Some item → CanMake parts item

-- the lane has room for so many more answers
pub record HasRoom (count : ℕ) (lane : Lane) : Type 0 where
  pub short : length lane.answers.items ≤ lane.made
  pub room : lane.made + count ≤ vec_capacity lane.answers
  pub few : lane.made + count < 2 ^ 32

-- an object has reached its last tag
abbrev pub HasSpent : Layout → List Entry → Type 0
HasSpent layout history = (object : ℕ) × (2 ^ 40 ≤ tag_after layout history object + 1)

-- the lane asked for these operations, and its seat's own entries have the answers that it keeps. They are the entries of
-- these operations, unless the seat has seen the last tag of an object
pub record HasMade (shared : SharedTable) (script : List Asked) (lane : Lane) : Type 0 where
  pub number : lane.seat.view.number ≡ lane.number
  pub known : Known
  pub is : lane.seat.view.known ≡ Some known
  pub answers : map answer_of (reverse known.mine) ≡ lane.answers.items
  pub few : length known.mine ≤ length script
  pub all : (map asked_of (reverse known.mine) ≡ script) ⊎ HasSpent shared.layout known.seen

-- a lane asked for more operations: what it had made and these are what it has made now
pub record Adds (shared : SharedTable) (more : List Asked) (before now : Lane) : Type 0 where
  pub ours : IsSeatOf shared now.seat
  pub number : now.number ≡ before.number
  pub made : now.made ≡ before.made + length more
  pub short : length now.answers.items ≤ length before.answers.items + length more
  pub room : vec_capacity now.answers ≡ vec_capacity before.answers
  pub makes : (script : List Asked) → HasMade shared script before → HasMade shared (script ++ more) now

-- the number, the seat and the answers of a lane
abbrev pub number_of : Lane → ℕ
number_of lane = lane.number

abbrev pub seat_of : Lane → SeatView
seat_of lane = lane.seat

abbrev pub answers_of : Lane → Vec Answer Global
answers_of lane = lane.answers

-- a lane before its first operation, with room for the answers of its script, and one after its last
pub record IsReady (shared : SharedTable) (system : System) (jobs workers : ℕ) (lane : Lane) : Type 0 where
  pub ours : IsSeatOf shared lane.seat
  pub room : HasRoom (length (lane_script system jobs workers lane.number)) lane
  pub none : HasMade shared [] lane

pub record HasRun (shared : SharedTable) (system : System) (jobs workers : ℕ) (lane : Lane) : Type 0 where
  pub ours : IsSeatOf shared lane.seat
  pub made : HasMade shared (lane_script system jobs workers lane.number) lane

-- a lane with no answers, and room for those of its script
pub record IsNew (system : System) (jobs workers : ℕ) (lane : Lane) : Type 0 where
  pub none : lane.answers.items ≡ []
  pub made : lane.made ≡ 0
  pub room : length (lane_script system jobs workers lane.number) ≤ vec_capacity lane.answers
  pub few : length (lane_script system jobs workers lane.number) ≤ 819200
