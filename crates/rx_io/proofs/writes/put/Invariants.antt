use Rattle.std.proofs.Common.{◌≡◌, ◌≤◌, ◌-◌, [], ◌∷◌, length, take}
use Rattle.std.specs.Io.KnownBytes.{Appends}
use Rattle.rx_io.specs.States.{AreCalled, moved_in}
use Rattle.rx_io.specs.Causes.{ArePieces}
use Rattle.rx_io.proofs.writes.put.Given as goal

abbrev pub invariant-loop-at : goal.invariant-loop-at
invariant-loop-at g l = record {
  within : l.at ≤ length l.piece;
  bytes : Appends (g.K.Sink.tells l.initial.sink).taken (g.K.Sink.tells l.sink).taken (take l.at l.piece);
  calls : AreCalled (g.K.Sink.tells l.initial.sink).calls (g.K.Sink.tells l.sink).calls (λ calls. ArePieces (l.piece ∷ []) calls × (moved_in calls ≡ l.at));
  kept : (g.K.Sink.tells l.sink).failures ≡ (g.K.Sink.tells l.initial.sink).failures;
}

abbrev pub decreases-loop-at : goal.decreases-loop-at
decreases-loop-at g l = length l.piece - l.at
