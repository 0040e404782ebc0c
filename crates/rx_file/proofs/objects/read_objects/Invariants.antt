use Rattle.std.proofs.Common.{◌≡◌, [], length, drop}
use Rattle.toml.specs.View.{items_view}
use Rattle.rx_file.specs.Arrays.{all_after}
use Rattle.rx_file.specs.Objects.{object_of_value}
use Rattle.rx_file.specs.Gives.{AreObjects}
use Rattle.rx_file.proofs.objects.read_objects.Given as goal

abbrev pub invariant-loop-value : goal.invariant-loop-value
invariant-loop-value l = record {
  objects :
      all_after object_of_value [] (items_view l.values)
      ≡ all_after object_of_value l.objects (items_view (drop l.value-index l.values));
  good : AreObjects l.objects;
  count : length l.objects ≡ l.value-index;
}
