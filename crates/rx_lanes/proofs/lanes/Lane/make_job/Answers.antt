use Rattle.rx_set.specs.declared.items.Item.TheVariants.{Work, Op}
use Rattle.rx_lanes.proofs.Making.{item_fits, room_one, adds_none, adds_item}
use Rattle.rx_lanes.proofs.lanes.Lane.make_job.Goals.{in-Work, in-Op}
use Rattle.rx_lanes.proofs.lanes.Lane.make_job.Goals as goal

pub make-requires-clause-exists : goal.make-requires-clause-exists
make-requires-clause-exists g c =
    (item_fits c.args.items.now c.loop-item.item-index (Work 0) c.loop-item-test.true c.args.shared.now.layout.parts (Op c.in-Op.object c.in-Op.call) c.in-Op.is c.requires.items).0

pub make-requires-clause-fits : goal.make-requires-clause-fits
make-requires-clause-fits g c =
    (item_fits c.args.items.now c.loop-item.item-index (Work 0) c.loop-item-test.true c.args.shared.now.layout.parts (Op c.in-Op.object c.in-Op.call) c.in-Op.is c.requires.items).1

pub make-requires-clause-room : goal.make-requires-clause-room
make-requires-clause-room g c =
    room_one c.args.items.now c.loop-item.item-index (Work 0) c.loop-item-test.true c.args.shared.now c.args.self.now c.loop-item.self c.in-Op.object c.in-Op.call c.in-Op.is c.requires.room c.loop-item.invariant

pub loop-item-preserved : goal.loop-item-preserved
loop-item-preserved g c =
    elim c.match-item.branch [
      | in-Work w ↦
          rw w.self-is (adds_item c.args.items.now c.loop-item.item-index (Work 0) c.loop-item-test.true c.args.shared.now (Work w.in-Work.n) c.args.self.now c.loop-item.self c.loop-item.self w.in-Work.is c.loop-item.invariant
          (adds_none c.args.shared.now c.loop-item.self c.loop-item.invariant.ours))
      | in-Op w ↦
          rw w.self-is (adds_item c.args.items.now c.loop-item.item-index (Work 0) c.loop-item-test.true c.args.shared.now (Op w.in-Op.object w.in-Op.call) c.args.self.now c.loop-item.self w.make.new.self w.in-Op.is c.loop-item.invariant w.make.ensures)
    ]
