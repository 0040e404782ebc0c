-- The bank that a run leaves.
use Rattle.std.specs.Prelude.{ℕ, ◌≡◌, ◌+◌, Option, IfSome}
use Rattle.rx_set.specs.System.{System}
use Rattle.rx_port.specs.Plain.{Whole}
use Rattle.rx_port.specs.declared.views.Counts.{Counts}
use Rattle.rx_slots.specs.Schedule.{slots}
use Rattle.rx_tick.specs.Banks.{IsBankOf}
use Rattle.rx_tick.specs.Sums.{AreSums}
use Rattle.rx_trace.specs.Report.{run_totals}

-- one exchange for each reply and each retry that is told
abbrev pub AreReported : System → ℕ → Option Counts → Type 0
AreReported system ticks counts = IfSome counts (λ c. c.exchanges ≡ (run_totals system ticks).replies + (run_totals system ticks).retries)

-- The bank of a run: it has the objects of the system and a seat for each task, and it stands for the history of the schedule. Its events are those of the attempts.
pub record IsBankLeft (system : System) (ticks : ℕ) (bank : Whole) : Type 0 where
  pub history : IsBankOf system (slots system ticks) bank
  pub sums : AreSums system (slots system ticks) bank.core.counts
  pub told : AreReported system ticks bank.core.counts
