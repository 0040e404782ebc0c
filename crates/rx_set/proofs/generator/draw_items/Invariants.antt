use Rattle.rx_set.specs.Generator.{item_drawn}
use Rattle.rx_set.proofs.Draws.{AreDrawn}
use Rattle.rx_set.proofs.generator.draw_items.Given as goal

abbrev pub invariant-loop : goal.invariant-loop
invariant-loop l = AreDrawn (λ _. item_drawn) l.counter l.initial.rng l.items.items l.rng
