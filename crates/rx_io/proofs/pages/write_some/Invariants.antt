-- A call that was interrupted left the writer's bytes as they were.
use Rattle.std.specs.Io.KnownBytes.{Keeps}
use Rattle.rx_io.proofs.pages.write_some.Given as goal

abbrev pub invariant-loop : goal.invariant-loop
invariant-loop g l = Keeps (g.W.Write.contents l.initial.inner) (g.W.Write.contents l.inner)
