use Rattle.std.proofs.Common.{◌≤◌, ◌+◌, arith}
use Rattle.rx_bench.proofs.Making.{one_more}
use Rattle.rx_bench.proofs.lanes.run.Goals as goal

pub loop-number-preserved : goal.loop-number-preserved
loop-number-preserved c =
    let sum = c.saturating_add-retries.ensures in
    let few : c.saturating_add-retries.result ≤ c.loop-number.retries + c.in-Done.lost = omega (arith, sum) in
    let so_far = c.loop-number.invariant.few in
    record {
      ours = c.operate.ensures.ours;
      made = one_more c.args.shared.now.layout c.args.seat.now.view c.loop-number.seat.view c.operate.new.seat.view 0 c.call_of.result c.loop-number.made c.loop-number.retries c.loop-number.invariant.made c.in-Done.reply c.in-Done.tag c.in-Done.lost c.saturating_add-retries.result c.in-Done.ensures.tells few;
      few = omega arith;
    }
