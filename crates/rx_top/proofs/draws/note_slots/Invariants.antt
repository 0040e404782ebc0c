use Rattle.std.proofs.Common.{◌≡◌, ◌≤◌, ◌-◌}
use Rattle.rx_top.specs.Noted.{AreNoted}
use Rattle.rx_top.proofs.draws.note_slots.Given as goal

abbrev pub invariant-loop-executive : goal.invariant-loop-executive
invariant-loop-executive l = record {
  system : l.executive.system ≡ l.set;
  within : l.executive.time ≤ l.ticks;
  noted : AreNoted l.set l.executive.time l.ledger l.totals;
}

abbrev pub decreases-loop-executive : goal.decreases-loop-executive
decreases-loop-executive l = l.ticks - l.executive.time
