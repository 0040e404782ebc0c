-- What a run has written and counted so far.
use Rattle.std.specs.Prelude.{ℕ, ◌≡◌, ◌+◌, ◌*◌, List, [], ◌∷◌, ◌++◌, map}
use Rattle.rx_set.specs.System.{System}
use Rattle.rx_ledger.specs.declared.events.Event.{Event}
use Rattle.rx_ledger.specs.declared.totals.Totals.{Totals}
use Rattle.rx_ledger.specs.Counts.{AreBelow}
use Rattle.rx_slots.specs.Schedule.{slots}
use Rattle.rx_slots.specs.Events.{events, misses}
use Rattle.rx_slots.specs.Counts.{totals_of}
use Rattle.rx_report.specs.Lines.{event_line, total_line}
use Rattle.rx_trace.specs.Report.{run_totals, object_lines}

-- the lines of some events
abbrev pub lines_of : System → List Event → List (List ℕ)
lines_of system told = map (event_line system) told

-- The totals are those of the first n slots. A slot has at most 131 events.
pub record AreCounts (system : System) (n : ℕ) (totals : Totals) : Type 0 where
  pub totals_are : totals ≡ totals_of (slots system n) (events system n)
  pub small : AreBelow (1 + 132 * n) totals

-- what is written after the events of the slots: the misses at the end, the objects and the totals
abbrev pub end_lines : System → ℕ → List (List ℕ)
end_lines system n = lines_of system (misses system (slots system n)) ++ (object_lines system n ++ total_line (run_totals system n) ∷ [])
