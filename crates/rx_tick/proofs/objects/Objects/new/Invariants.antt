use Rattle.std.proofs.Common.{◌≡◌, length}
use Rattle.rx_tick.proofs.objects.Objects.new.Given as goal

abbrev pub invariant-loop : goal.invariant-loop
invariant-loop l = length l.machines.items ≡ l.counter
