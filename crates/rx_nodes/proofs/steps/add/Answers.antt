use Rattle.std.proofs.Common.{◌∙◌}
use Rattle.rx_nodes.proofs.Facts.{none_spare}
use Rattle.rx_nodes.proofs.Stepping.{told_by}
use Rattle.rx_nodes.proofs.steps.add.Goals as goal

pub returns-else-is_place-clause-told : goal.returns-else-is_place-clause-told
returns-else-is_place-clause-told c =
    let value = c.spare_of-spare.ensures.value in
    told_by _ _ _ _ _ (
      c.requires.lined.inside,
      none_spare c.args.home.now c.requires.serves.places c.args.head c.args.nodes.now
          (λ e. c.if-spare-eq-NO_PLACE.false (value ∙ e))
          (λ in_range. c.is_place.ensures.no c.if-is_place.false (rw value in_range)),
    )
