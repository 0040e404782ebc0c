use Rattle.std.proofs.Common.{map}
use Rattle.rx_set.specs.Generator.{task_drawn}
use Rattle.rx_set.specs.View.{row_of}
use Rattle.rx_set.proofs.Draws.{AreDrawn}
use Rattle.rx_set.proofs.generator.draw_tasks.Given as goal

abbrev pub invariant-loop-place : goal.invariant-loop-place
invariant-loop-place l = AreDrawn task_drawn l.place l.initial.rng (map row_of l.tasks.items) l.rng
