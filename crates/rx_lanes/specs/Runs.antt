-- What all lanes have made.
use Rattle.std.specs.Prelude.{ℕ, ◌≡◌, ◌<◌, List, [], length, map, reverse, slice_index_or, Vec}
use Rattle.std.specs.List.{flat_map}
use Rattle.std.specs.declared.alloc.Global.{Global}
use Rattle.rx_seq.specs.declared.entries.Entry.{Entry}
use Rattle.rx_seq.specs.Legal.{entries_of}
use Rattle.rx_set.specs.System.{System, parts_of, numbers}
use Rattle.rx_shape.specs.Layout.{Layout}
use Rattle.rx_merge.specs.Merged.{list_at}
use Rattle.rx_set.specs.Operations.{asked_of, script_of}
use Rattle.rx_lanes.specs.declared.answers.Answer.{Answer}
use Rattle.rx_lanes.specs.Scripts.{share, lane_script}
use Rattle.rx_lanes.specs.Lists.{plain, answer_of, IsListOf}

-- the table of the objects of a set, whose tags start at 0, with a seat for each lane
abbrev pub table_of : System → ℕ → Layout
table_of system workers = record { parts = parts_of system; seats = workers; first = 0 }

-- the entries of a caller, which is a seat or a task, oldest first
abbrev pub entries_by : ℕ → List Entry → List Entry
entries_by caller history = reverse (entries_of caller history)

-- a list for each task, of its entries in a history, oldest first
abbrev pub lists_in : System → List Entry → List (List Entry)
lists_in system history = map (λ task. entries_by task history) (numbers (length system.tasks))

-- a list for each task, of the calls of its script
pub record AreLists (system : System) (jobs : ℕ) (lists : List (List Entry)) : Type 0 where
  pub many : length lists ≡ length system.tasks
  pub each : (task : ℕ) → task < length system.tasks → IsListOf task (script_of system jobs task) (list_at lists task)

-- a seat's entries are the lists of its lane's tasks, one after the other, but for the callers and their numbers
abbrev pub IsShared : System → ℕ → List (List Entry) → List Entry → ℕ → Type 0
IsShared system workers lists history lane =
    map plain (entries_by lane history) ≡ map plain (flat_map (list_at lists) (share (length system.tasks) workers lane))

-- so are those of each seat
abbrev pub AreShared : System → ℕ → List (List Entry) → List Entry → Type 0
AreShared system workers lists history = (lane : ℕ) → lane < workers → IsShared system workers lists history lane

-- a seat's entries are those of its lane's script, with these answers
pub record IsKept (system : System) (jobs workers : ℕ) (history : List Entry) (lane : ℕ) (answers : List Answer) : Type 0 where
  pub calls : map asked_of (entries_by lane history) ≡ lane_script system jobs workers lane
  pub told : map answer_of (entries_by lane history) ≡ answers

-- the answers of a lane among those of all, and those of all as plain lists
abbrev pub answers_at : List (List Answer) → ℕ → List Answer
answers_at all lane = slice_index_or all lane []

abbrev pub items_of : List (Vec Answer Global) → List (List Answer)
items_of all = map (λ (answers : Vec Answer Global). answers.items) all

-- so it is for each lane
abbrev pub AreKept : System → ℕ → ℕ → List Entry → List (List Answer) → Type 0
AreKept system jobs workers history all = (lane : ℕ) → lane < workers → IsKept system jobs workers history lane (answers_at all lane)
