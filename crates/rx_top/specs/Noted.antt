-- What is noted of a run.
use Rattle.std.specs.Prelude.{ℕ, ◌≡◌, ◌≤◌, List}
use Rattle.std.specs.List.{All}
use Rattle.rx_set.specs.System.{System}
use Rattle.rx_ledger.specs.declared.events.Event.{Event}
use Rattle.rx_ledger.specs.declared.totals.Totals.{Totals}
use Rattle.rx_ledger.specs.Ledgers.{time_of}
use Rattle.rx_slots.specs.Schedule.{slots}
use Rattle.rx_slots.specs.Events.{events}
use Rattle.rx_port.specs.Plain.{Whole}
use Rattle.rx_tick.specs.Banks.{IsBankOf}
use Rattle.rx_trace.specs.Report.{reported_events, run_totals}
use Rattle.rx_trace.specs.Runs.{AreCounts}

-- The ledger has the events of the first n slots, each of which is at time n or before, and the totals are theirs.
pub record AreNoted (system : System) (n : ℕ) (ledger : List Event) (totals : Totals) : Type 0 where
  pub events_are : ledger ≡ events system n
  pub earlier : All (λ event. time_of event ≤ n) ledger
  pub counts : AreCounts system n totals

-- This is what is noted of a run of n ticks: all events that are told, their totals, and a bank that stands for its history.
pub record IsRun (system : System) (n : ℕ) (ledger : List Event) (totals : Totals) (bank : Whole) : Type 0 where
  pub events_are : ledger ≡ reported_events system n
  pub totals_are : totals ≡ run_totals system n
  pub stands : IsBankOf system (slots system n) bank
