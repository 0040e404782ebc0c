use Rattle.std.proofs.Common.{◌≡◌, ◌≤◌, ◌+◌, ◌++◌, length}
use Rattle.rx_ledger.specs.declared.events.Event.TheVariants.{Miss}
use Rattle.rx_slots.specs.Schedule.{slots}
use Rattle.rx_slots.specs.Events.{is_missed}
use Rattle.rx_slots.proofs.Lists.{told_of}
use Rattle.rx_tick.proofs.looks.tell_misses.Given as goal

abbrev pub invariant-loop-task : goal.invariant-loop-task
invariant-loop-task l = record {
  told : l.events.items ≡ l.initial.events.items ++ told_of (Miss l.now) (is_missed l.set (slots l.set l.now)) l.now l.task;
  few : length l.events.items ≤ length l.initial.events.items + l.task;
}
