-- The report of what lanes made of the operations of all tasks, which is told of one history of them.
use Rattle.std.specs.Prelude.{ℕ, ◌≡◌, ◌<◌, List, [], ◌∷◌, ◌++◌, map, length, reverse, slice_get, Some}
use Rattle.rx_seq.specs.declared.entries.Entry.{Entry}
use Rattle.rx_set.specs.declared.items.Item.TheVariants.{Op}
use Rattle.rx_set.specs.System.{System, parts_of}
use Rattle.rx_lanes.specs.Histories.{HaveSameEnds, HaveSameObjects}
use Rattle.rx_lanes.specs.Runs.{AreShared, entries_by, lists_in, table_of}
use Rattle.rx_table.specs.Closings.{Ending, HasEnded}
use Rattle.rx_report.specs.Lines.{item_of}
use Rattle.rx_report.specs.LaneLines.{calls_line, entry_item, entry_job, entry_line, lanes_line}
use Rattle.rx_trace.specs.Report.{first_objects}

-- the lines of a history: its entries from the oldest on, the objects after them, and how many there are
abbrev pub history_lines : System → List Entry → List (List ℕ)
history_lines system history =
    map (entry_line system) (reverse history) ++ (first_objects system history (length system.objects) ++ calls_line (length history) ∷ [])

-- the lines that so many lanes write: how many they were and how many jobs of each task they made, and those of the history
abbrev pub lanes_report : System → ℕ → ℕ → List Entry → List (List ℕ)
lanes_report system workers jobs history = lanes_line workers jobs ∷ history_lines system history

-- the line of an entry of any task names the item that asked for the entry's own call
abbrev pub TellsCalls : System → List Entry → Type 0
TellsCalls system history =
    (task place : ℕ) (entry : Entry) → task < length system.tasks → slice_get (entries_by task history) place ≡ Some entry
    → item_of system (entry_job system entry) (entry_item system entry) ≡ Some (Op entry.object entry.call)

-- The closed table of the lanes: it has the objects of the set and a seat for each lane, and its words stand for its own history. There each seat has the entries of its lane's tasks, but for the callers and their numbers. Each object has those of the history that is told, the loud ones in the same order, and ends with the same tag and in the same state.
pub record IsTableLeft (system : System) (workers : ℕ) (history : List Entry) (table : Ending) : Type 0 where
  pub layout : table.layout ≡ table_of system workers
  pub ended : HasEnded table
  pub lanes : AreShared system workers (lists_in system history) table.history
  pub objects : HaveSameObjects history table.history
  pub ends : HaveSameEnds (parts_of system) history table.history
