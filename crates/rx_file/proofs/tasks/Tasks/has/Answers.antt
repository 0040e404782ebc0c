use Rattle.std.proofs.Common.{◌∙◌, sym, ap, map, is_some}
use Rattle.rx_set.specs.Valid.{task_name}
use Rattle.rx_file.proofs.Found.{taken_has_place}
use Rattle.rx_file.proofs.tasks.Tasks.has.Goals as goal

pub returns : goal.returns
returns c = c.is_some.ensures ∙ ap is_some c.find.ensures.value ∙ sym (taken_has_place (map task_name c.args.self.now) c.args.name.now)
