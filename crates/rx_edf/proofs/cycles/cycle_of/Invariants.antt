use Rattle.std.proofs.Common.{◌≡◌, ◌≤◌, ◌<◌, ◌^◌}
use Rattle.rx_edf.specs.ChargedTasks.{cycle_to}
use Rattle.rx_edf.proofs.cycles.cycle_of.Given as goal

abbrev pub invariant-loop-place : goal.invariant-loop-place
invariant-loop-place l = record { is : l.cycle ≡ cycle_to l.charged l.place; some : 1 ≤ l.cycle; narrow : l.cycle < 2 ^ 96 }
