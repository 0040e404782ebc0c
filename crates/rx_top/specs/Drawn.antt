-- The report of a drawn set: what is told of the intervals of its schedule.
use Rattle.std.specs.Prelude.{ℕ, ◌+◌, ◌*◌, List, [], ◌∷◌, ◌++◌, map}
use Rattle.rx_set.specs.System.{System, numbers}
use Rattle.rx_ledger.specs.declared.events.Event.{Event}
use Rattle.rx_ledger.specs.Intervals.{any_job, retries, preemptions}
use Rattle.rx_report.specs.Lines.{total_line}
use Rattle.rx_report.specs.SpanLines.{window_line}
use Rattle.rx_trace.specs.Tests.{test_line}
use Rattle.rx_trace.specs.Report.{reported_events, object_lines, run_totals}

-- a drawn set is run for so many ticks, and each of the ten intervals has a tenth of them
abbrev pub drawn_ticks : ℕ
drawn_ticks = 100000

abbrev pub window_ticks : ℕ
window_ticks = 10000

-- the line of the interval after so many: its retries and its preemptions among these events
abbrev pub window_line_after : List Event → ℕ → List ℕ
window_line_after told place =
    let a = place * window_ticks in
    let b = place * window_ticks + window_ticks in
    window_line a b (retries any_job a b told) (preemptions any_job a b told)

-- the lines of the first intervals
abbrev pub first_windows : List Event → ℕ → List (List ℕ)
first_windows told count = map (window_line_after told) (numbers count)

-- the lines that are written of a run after its test: the intervals, the objects and the totals
abbrev pub window_report : System → ℕ → List (List ℕ)
window_report system ticks = first_windows (reported_events system ticks) 10 ++ (object_lines system ticks ++ total_line (run_totals system ticks) ∷ [])

-- the lines that are written of a drawn set: that of its test, and those
abbrev pub drawn_report : System → ℕ → List (List ℕ)
drawn_report system ticks = test_line system ∷ window_report system ticks
