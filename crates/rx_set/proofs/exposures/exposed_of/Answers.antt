use Rattle.std.proofs.Common.{get_or, ap, ◌∙◌}
use Rattle.rx_set.proofs.Exposed.{exposed_here, part_good}
use Rattle.rx_set.proofs.exposures.exposed_of.Goals as goal

pub attempt_steps-requires : goal.attempt_steps-requires
attempt_steps-requires c =
    part_good c.args.objects.now c.args.item c.in-Op.object c.in-Op.call (get_or c.args.objects.now c.in-Op.object c.index-objects-object.result) c.in-Op.is c.requires.known
    (ap (get_or c.args.objects.now c.in-Op.object) c.index-objects-object.is) c.requires.valid

pub returns-then-lowest-object : goal.returns-then-lowest-object
returns-then-lowest-object c =
    exposed_here c.args.objects.now c.args.lowest.now c.args.item c.in-Op.object c.in-Op.call c.args.most c.from.result (get_or c.args.objects.now c.in-Op.object c.index-objects-object.result) c.in-Op.is c.requires.known
    (ap (get_or c.args.objects.now c.in-Op.object) c.index-objects-object.is) c.if-lowest-object.true (c.from.ensures ∙ c.attempt_steps.ensures.value)
