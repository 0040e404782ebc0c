use Rattle.std.proofs.Common.{◌≡◌, ◌≤◌, ◌++◌, fold, take}
use Rattle.std.specs.List.{All}
use Rattle.rx_ledger.specs.Counts.{counted}
use Rattle.rx_ledger.specs.Ledgers.{time_of}
use Rattle.rx_top.proofs.draws.note_events.Given as goal

abbrev pub invariant-loop-event : goal.invariant-loop-event
invariant-loop-event l = record {
  noted : l.ledger ≡ l.initial.ledger ++ take l.event-index l.events;
  earlier : All (λ event. time_of event ≤ l.now) l.ledger;
  totals : l.totals ≡ fold counted l.initial.totals (take l.event-index l.events);
}
