use Rattle.std.proofs.Common.{ℕ, ◌≡◌, ◌≤◌, ◌<◌, ◌+◌, ◌++◌, length}
use Rattle.rx_ledger.specs.declared.events.Event.TheVariants.{Release}
use Rattle.rx_slots.specs.Schedule.{slots}
use Rattle.rx_slots.specs.Events.{is_released_at}
use Rattle.rx_tick.specs.States.{AreBeforeDue, best_of, in_hand, state_at}
use Rattle.rx_slots.proofs.Lists.{told_of}
use Rattle.rx_tick.proofs.Told.{AreBetween}
use Rattle.rx_tick.proofs.looks.count_releases.Given as goal

abbrev pub invariant-loop-task : goal.invariant-loop-task
invariant-loop-task l = record {
  states : AreBetween l.set (slots l.set l.now) l.now l.task l.states;
  told : l.events.items ≡ l.initial.events.items ++ told_of (Release l.now) (is_released_at l.set l.now) l.now l.task;
  best : l.turn.best ≡ best_of l.set (length l.set.tasks) l.states;
  dues : AreBeforeDue l.set (l.now + 1) l.turn.next_due l.states;
  next : (task : ℕ) → task < l.task → l.next ≤ (state_at l.states task).next;
  same : (task : ℕ) → in_hand (state_at l.states task) ≡ in_hand (state_at l.initial.states task);
  last : l.turn.last ≡ l.initial.turn.last;
  few : length l.events.items ≤ length l.initial.events.items + l.task;
}
