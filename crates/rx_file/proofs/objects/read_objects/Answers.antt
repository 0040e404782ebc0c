use Rattle.std.proofs.Common.{arith}
use Rattle.std.proofs.lemmas.Grind.{common_steps}
use Rattle.rx_set.specs.Valid.{IsObjectRow, object_name}
use Rattle.rx_file.proofs.Valid.{rows_next}
use Rattle.rx_file.proofs.objects.read_objects.Goals as goal

pub loop-value-preserved : goal.loop-value-preserved
loop-value-preserved c = record {
  objects = grind (arith, common_steps);
  good =
      rw c.in_ok-objects.ensures.objects
      (rows_next IsObjectRow object_name _ _ c.loop-value.invariant.good c.in_ok-object.ensures.good c.in_ok-object.ensures.new);
  count = grind (arith, common_steps);
}
