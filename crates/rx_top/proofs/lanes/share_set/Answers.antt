use Rattle.std.proofs.Common.{refl, reverse}
use Rattle.rx_merge.specs.Merged.{lists_of as plain_lists}
use Rattle.rx_top.proofs.Endings.{writes_stopped}
use Rattle.rx_top.proofs.Sharing.{table_is}
use Rattle.rx_top.proofs.lanes.share_set.Goals as goal

pub returns-in_err-write_lanes : goal.returns-in_err-write_lanes
returns-in_err-write_lanes g c = (
  reverse c.in_ok-merged.field-0.merged.items,
  writes_stopped _ _ _ _ _ c.from_residual-in_err-write_lanes.ensures.1 (record {
    written = rw c.as_slice.ensures.value at c.in_err-write_lanes.ensures;
    made = c.in_ok-merged.ensures.made;
    nothing = c.requires.nothing;
  }),
)

pub returns : goal.returns
returns g c =
    let run = c.in_ok-merged.field-0 in
    let is = c.in_ok-merged.ensures in (
      reverse run.merged.items,
      record {
        status = refl;
        written = rw c.as_slice.ensures.value at c.in_ok-write_lanes.ensures;
        valid = c.requires.valid;
        made = is.made;
        leaves = table_is c.args.set.now c.args.workers (plain_lists run.lists.items) run.merged.items run.closed is.own is.table is.ended is.lanes is.objects is.ends;
      },
    )
