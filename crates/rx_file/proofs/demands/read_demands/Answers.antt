use Rattle.std.proofs.Common.{arith}
use Rattle.std.proofs.lemmas.Grind.{common_steps}
use Rattle.rx_file.proofs.Valid.{demands_next}
use Rattle.rx_file.proofs.demands.read_demands.Goals as goal

pub loop-value-preserved : goal.loop-value-preserved
loop-value-preserved c = record {
  demands = grind (arith, common_steps);
  good = rw c.in_ok-demands.ensures.rows (demands_next _ _ _ c.loop-value.invariant.good c.in_ok-row.ensures.good c.in_ok-row.ensures.new);
  count = grind (arith, common_steps);
}
