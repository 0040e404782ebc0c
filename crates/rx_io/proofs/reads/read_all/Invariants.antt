use Rattle.std.proofs.Common.{◌≡◌, ◌≤◌, ◌-◌, ◌+◌, length}
use Rattle.std.specs.Io.KnownBytes.{Consumes}
use Rattle.rx_io.specs.States.{AreCalled, moved_in}
use Rattle.rx_io.specs.Causes.{AllMove, AreSteps, read_step}
use Rattle.rx_io.proofs.reads.read_all.Given as goal

abbrev pub invariant-loop-buffer : goal.invariant-loop-buffer
invariant-loop-buffer g l = record {
  few : length l.bytes.items ≤ l.most + 1;
  taken : Consumes (g.S.Source.tells l.initial.source).left (g.S.Source.tells l.source).left l.bytes.items;
  calls : AreCalled (g.S.Source.tells l.initial.source).calls (g.S.Source.tells l.source).calls (λ calls. AreSteps read_step (l.most + 1) calls × AllMove calls × (moved_in calls ≡ length l.bytes.items));
  kept : (g.S.Source.tells l.source).failures ≡ (g.S.Source.tells l.initial.source).failures;
}

abbrev pub decreases-loop-buffer : goal.decreases-loop-buffer
decreases-loop-buffer g l = l.most + 1 - length l.bytes.items
