-- The history that lanes make of the operations of a set's tasks.
use Rattle.std.specs.Prelude.{ℕ, ◌≡◌, ◌<◌, IsPermutation, List, length, map, sum_by}
use Rattle.rx_seq.specs.declared.kinds.Part.{Part}
use Rattle.rx_seq.specs.declared.entries.Entry.{Entry}
use Rattle.rx_seq.specs.History.{replay, tag_of}
use Rattle.rx_seq.specs.Legal.{IsLegal}
use Rattle.rx_set.specs.System.{System, numbers, parts_of}
use Rattle.rx_set.specs.Operations.{script_of}
use Rattle.rx_merge.specs.Merged.{entries_on, louds_on, merged}
use Rattle.rx_lanes.specs.Lists.{IsListOf, plain}
use Rattle.rx_lanes.specs.Runs.{AreShared, entries_by, lists_in}

-- what so many lanes made of the operations of a set, for so many jobs of each task: this history, newest first
pub record Made : Type 0 where
  pub system : System
  pub workers : ℕ
  pub jobs : ℕ
  pub history : List Entry

abbrev pub made_of : System → ℕ → ℕ → List Entry → Made
made_of system workers jobs history = record { system = system; workers = workers; jobs = jobs; history = history }

-- each object has the same loud entries in both histories, in the same order, and in all the same entries, but for the callers and their numbers. So in two legal histories the same quiet ones stand between two loud ones: the tag tells where
pub record HaveSameObjects (history other : List Entry) : Type 0 where
  pub loud : (object : ℕ) → map plain (louds_on object history) ≡ map plain (louds_on object other)
  pub all : (object : ℕ) → IsPermutation (map plain (entries_on object history)) (map plain (entries_on object other))

-- each object ends with the same tag and in the same state in both histories
abbrev pub HaveSameEnds : List Part → List Entry → List Entry → Type 0
HaveSameEnds parts history other = (object : ℕ) → (tag_of object history ≡ tag_of object other) × (replay parts object history ≡ replay parts object other)

-- the calls of the lanes, each of which makes its tasks one after the other, have an order that is legal and has on each object the entries of this history: the loud ones as they stand there, and between two of them the same quiet ones
pub record CanBeShared (system : System) (workers : ℕ) (history : List Entry) : Type 0 where
  pub order : List Entry
  pub legal : IsLegal (parts_of system) 0 order
  pub lanes : AreShared system workers (lists_in system history) order
  pub objects : HaveSameObjects history order

-- The history is one of the objects used one operation at a time. It has the operations of each task for so many jobs, each once and in order, and no others, in the merged order of the tasks' lists. So many lanes can make it.
pub record IsMade (made : Made) : Type 0 where
  pub legal : IsLegal (parts_of made.system) 0 made.history
  pub scripts : (task : ℕ) → task < length made.system.tasks → IsListOf task (script_of made.system made.jobs task) (entries_by task made.history)
  pub whole : length made.history ≡ sum_by (λ task. length (script_of made.system made.jobs task)) (numbers (length made.system.tasks))
  pub merged : made.history ≡ merged (lists_in made.system made.history)
  pub shared : CanBeShared made.system made.workers made.history
