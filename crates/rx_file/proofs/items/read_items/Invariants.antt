use Rattle.std.proofs.Common.{◌≡◌, [], length, drop}
use Rattle.std.specs.List.{All}
use Rattle.toml.specs.View.{items_view}
use Rattle.rx_set.specs.Valid.{IsItem}
use Rattle.rx_file.specs.Arrays.{all_after}
use Rattle.rx_file.specs.Items.{next_item}
use Rattle.rx_file.specs.Gives.{alone}
use Rattle.rx_file.proofs.items.read_items.Given as goal

abbrev pub invariant-loop-value : goal.invariant-loop-value
invariant-loop-value l = record {
  items :
      all_after (next_item l.objects l.task) [] (items_view l.values)
      ≡ all_after (next_item l.objects l.task) l.items.items (items_view (drop l.value-index l.values));
  good : All (IsItem (alone l.objects)) l.items.items;
  count : length l.items.items ≡ l.value-index;
}
