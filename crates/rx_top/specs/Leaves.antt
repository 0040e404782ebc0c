-- The words that a call hands out.
use Rattle.std.specs.Prelude.{ℕ, ◌≡◌, List}
use Rattle.rx_seq.specs.declared.entries.Entry.{Entry}
use Rattle.rx_set.specs.System.{System}
use Rattle.rx_trace.specs.RunBanks.{IsBankLeft}
use Rattle.rx_top.specs.LaneReport.{IsTableLeft}
use Rattle.rx_top.specs.declared.left.Left.{Left}
use Rattle.rx_top.specs.declared.left.Left.TheVariants.{Nothing, Bank, Closed}

-- what is to be handed out: nothing, the bank of a run of so many slots, or the table of so many lanes that made this history
pub data ToLeave : Type 0 where
  LeaveNothing : ToLeave
  LeaveBank : System → ℕ → ToLeave
  LeaveTable : System → ℕ → List Entry → ToLeave

-- What is handed out is that.
abbrev pub Leaves : ToLeave → Left → Type 0
Leaves LeaveNothing left = left ≡ Nothing
Leaves (LeaveBank system ticks) Nothing = ⊥
Leaves (LeaveBank system ticks) (Bank bank) = IsBankLeft system ticks bank
Leaves (LeaveBank system ticks) (Closed closed) = ⊥
Leaves (LeaveTable system workers history) Nothing = ⊥
Leaves (LeaveTable system workers history) (Bank bank) = ⊥
Leaves (LeaveTable system workers history) (Closed closed) = IsTableLeft system workers history closed
