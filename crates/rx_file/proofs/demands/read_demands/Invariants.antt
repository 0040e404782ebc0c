use Rattle.std.proofs.Common.{◌≡◌, [], length, drop}
use Rattle.toml.specs.View.{items_view}
use Rattle.rx_file.specs.Arrays.{all_after}
use Rattle.rx_file.specs.Demands.{demand_of_value}
use Rattle.rx_file.specs.Gives.{AreDemands}
use Rattle.rx_file.proofs.demands.read_demands.Given as goal

abbrev pub invariant-loop-value : goal.invariant-loop-value
invariant-loop-value l = record {
  demands :
      all_after (demand_of_value l.tasks) [] (items_view l.values)
      ≡ all_after (demand_of_value l.tasks) l.demands (items_view (drop l.value-index l.values));
  good : AreDemands l.tasks l.demands;
  count : length l.demands ≡ l.value-index;
}
