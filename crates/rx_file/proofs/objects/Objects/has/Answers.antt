use Rattle.std.proofs.Common.{◌∙◌, sym, ap, map, is_some}
use Rattle.rx_set.specs.Valid.{object_name}
use Rattle.rx_file.proofs.Found.{taken_has_place}
use Rattle.rx_file.proofs.objects.Objects.has.Goals as goal

pub returns : goal.returns
returns c = c.is_some.ensures ∙ ap is_some c.find.ensures.value ∙ sym (taken_has_place (map object_name c.args.self.now) c.args.name.now)
