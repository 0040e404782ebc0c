use Rattle.std.proofs.Common.{◌<◌, length, arith}
use Rattle.rx_trace.proofs.Counting.{counted_taken, small_so_far}
use Rattle.rx_top.proofs.Noting.{may_follow, noted_taken, earlier_taken}
use Rattle.rx_top.proofs.draws.note_events.Goals as goal

pub count-requires : goal.count-requires
count-requires c = small_so_far _ _ _ _ c.loop-event.invariant.totals c.requires.few c.requires.small

pub push-requires : goal.push-requires
push-requires c = may_follow c.loop-event.ledger c.args.events.now c.args.now c.loop-event.event-index _ c.loop-event.invariant.earlier c.requires.times (omega arith)

pub loop-event-preserved : goal.loop-event-preserved
loop-event-preserved c =
    let inside : c.loop-event.event-index < length c.args.events.now = omega arith in record {
      noted = noted_taken c.args.ledger.now c.loop-event.ledger c.push.new.self c.args.events.now c.loop-event.event-index _ c.loop-event.invariant.noted inside c.in_ok-push.ensures.appended;
      earlier = earlier_taken c.loop-event.ledger c.push.new.self c.args.events.now c.args.now c.loop-event.event-index _ c.loop-event.invariant.earlier c.requires.times inside c.in_ok-push.ensures.appended;
      totals = counted_taken c.args.totals.now c.loop-event.totals c.count.new.self c.args.events.now c.loop-event.event-index _ c.loop-event.invariant.totals inside c.count.ensures;
    }
