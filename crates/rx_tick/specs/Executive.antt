-- What an executive shows, and what it keeps.
use Rattle.std.specs.Prelude.{ℕ, ◌≤◌, ◌^◌, List}
use Rattle.rx_set.specs.System.{System}
use Rattle.rx_port.specs.Plain.{Whole}
use Rattle.rx_slots.specs.Schedule.{slots}
use Rattle.rx_tick.specs.States.{AreStates, IsTurn}
use Rattle.rx_tick.specs.Banks.{IsKept}
use Rattle.rx_tick.specs.declared.objects.Objects.{Objects}
use Rattle.rx_tick.specs.declared.states.State.{State}
use Rattle.rx_tick.specs.declared.turns.Turn.{Turn}

-- what an executive shows: its system, the number of slots so far, and the bank on which attempts are made
pub record Moment : Type 0 where
  pub system : System
  pub time : ℕ
  pub bank : Whole

abbrev pub moment : System → ℕ → Whole → Moment
moment system time bank = record { system = system; time = time; bank = bank }

-- what an executive keeps: at most 2^40 slots, the states of all tasks, what is kept for all of them together, and the
-- bank and the machines
pub record IsExecutive (system : System) (time : ℕ) (states : List State) (turn : Turn) (objects : Objects) : Type 0 where
  pub bound : time ≤ 2 ^ 40
  pub all_states : AreStates system (slots system time) time states
  pub kept : IsTurn system time states turn
  pub words : IsKept system (slots system time) states objects
