use Rattle.std.proofs.Common.{◌∙◌}
use Rattle.rx_set.proofs.Draws.{task_made}
use Rattle.rx_set.proofs.generator.draw_task.Goals as goal

pub returns : goal.returns
returns c =
    let drawn = c.in_ok-items.ensures in
    task_made _ _ _ _ _ _ _ _ _ _ _ (c.from.ensures ∙ c.draw.ensures.value) c.draw.ensures.after (c.from-offset.ensures ∙ c.draw-2.ensures.value) c.draw-2.ensures.after
    c.draw-more.ensures.value c.draw-more.ensures.after c.name_of_task.ensures (c.of.ensures ∙ drawn.0, drawn.1)
