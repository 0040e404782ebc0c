-- The report of a run of n ticks.
use Rattle.std.specs.Prelude.{ℕ, List, [], ◌∷◌, ◌++◌, map, length}
use Rattle.rx_seq.specs.declared.entries.Entry.{Entry}
use Rattle.rx_seq.specs.History.{replay, tag_of}
use Rattle.rx_set.specs.System.{System, parts_of, numbers}
use Rattle.rx_ledger.specs.declared.events.Event.{Event}
use Rattle.rx_ledger.specs.declared.totals.Totals.{Totals}
use Rattle.rx_slots.specs.Schedule.{history, slots}
use Rattle.rx_slots.specs.Events.{events, misses}
use Rattle.rx_slots.specs.Counts.{totals_of}
use Rattle.rx_report.specs.Lines.{event_line, object_line, total_line}
use Rattle.rx_trace.specs.Tests.{test_line}

-- the events of the first n slots, and the misses at time n
abbrev pub reported_events : System → ℕ → List Event
reported_events system n = events system n ++ misses system (slots system n)

-- the totals of the first n slots and of all events that are told
abbrev pub run_totals : System → ℕ → Totals
run_totals system n = totals_of (slots system n) (reported_events system n)

-- the line of an object after these entries: its tag and its state are theirs
abbrev pub object_line_after : System → List Entry → ℕ → List ℕ
object_line_after system before object = object_line system object (tag_of object before) (replay (parts_of system) object before)

-- the lines of the first objects, after these entries
abbrev pub first_objects : System → List Entry → ℕ → List (List ℕ)
first_objects system before count = map (object_line_after system before) (numbers count)

-- the lines of the objects in file order, after the entries of the first n slots
abbrev pub object_lines : System → ℕ → List (List ℕ)
object_lines system n = first_objects system (history (slots system n)) (length system.objects)

-- the lines of the schedule of n ticks: its events, its objects and its totals
abbrev pub schedule_lines : System → ℕ → List (List ℕ)
schedule_lines system n = map (event_line system) (reported_events system n) ++ (object_lines system n ++ total_line (run_totals system n) ∷ [])

-- the lines that a run of n ticks writes: that of the admission test, and those of the schedule
abbrev pub report : System → ℕ → List (List ℕ)
report system n = test_line system ∷ schedule_lines system n

-- how many misses a run of n ticks tells
abbrev pub reported_misses : System → ℕ → ℕ
reported_misses system n = (run_totals system n).missed
