use Rattle.std.proofs.Common.{◌<◌, ◌∙◌, sym, ap, length}
use Rattle.std.proofs.lemmas.List.{length-map}
use Rattle.rx_set.specs.declared.objects.Object.{Object}
use Rattle.rx_file.proofs.Found.{part_of_object}
use Rattle.rx_file.proofs.objects.Objects.part.Goals as goal

pub returns : goal.returns
returns c =
    let within : c.args.object < length c.self.inside.rows.items = simp length-map at (rw (← c.self.view_is) at c.requires) in
    rw (← c.self.view_is)
    (ap (λ (object : Object). object.part) c.index.ensures ∙ sym (part_of_object c.self.inside.rows.items c.args.object c.index.result.now within))
