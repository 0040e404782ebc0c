use Rattle.std.proofs.Common.{◌∙◌}
use Rattle.rx_lanes.proofs.Seats.{layout_fits}
use Rattle.rx_lanes.proofs.tables.open.Goals as goal

pub new-requires : goal.new-requires
new-requires c = layout_fits c.args.set.now _ _ c.tasks-tasks.ensures.valid (c.as_slice.ensures.value ∙ c.parts.ensures) c.requires.0 c.requires.1
