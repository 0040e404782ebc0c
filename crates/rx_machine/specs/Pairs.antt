-- Two machines on one bank, with seats 0 and 1.
use Rattle.rx_port.specs.Plain.{Whole, view_at, IsSeatOf}
use Rattle.rx_machine.specs.Operations.{Operation, Follows}

-- the bank has both seats, and each machine is one for its seat
pub record AreTwo (bank : Whole) (first second : Operation) : Type 0 where
  pub seat_0 : IsSeatOf bank 0
  pub seat_1 : IsSeatOf bank 1
  pub follows_0 : Follows bank.layout (view_at bank.core 0) first
  pub follows_1 : Follows bank.layout (view_at bank.core 1) second
