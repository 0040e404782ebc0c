use Rattle.std.proofs.Common.{◌<◌, ◌∙◌, sym, ap, length}
use Rattle.std.proofs.lemmas.List.{length-map}
use Rattle.rx_set.specs.declared.tasks.Task.{Task}
use Rattle.rx_file.proofs.Found.{items_of_task}
use Rattle.rx_file.proofs.tasks.Tasks.body.Goals as goal

pub returns : goal.returns
returns c =
    let within : c.args.task < length c.self.inside.rows.items = simp length-map at (rw (← c.self.view_is) at c.requires) in
    rw (← c.self.view_is)
    (c.items.ensures ∙ ap (λ (task : Task). task.body) c.index.ensures ∙ sym (items_of_task c.self.inside.rows.items c.args.task c.index.result.now within))
