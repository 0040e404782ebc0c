use Rattle.std.proofs.Common.{ℕ, ◌≡◌, ◌≤◌, ◌<◌, ◌+◌, ◌*◌, ◌/◌, ◌^◌, ◌≢◌, length}
use Rattle.rx_tree.specs.declared.trees.TheConstants.{LEAVES}
use Rattle.rx_tree.specs.Trees.{IsLesser, key_at}
use Rattle.rx_tree.proofs.trees.Tree.put.Given as goal

abbrev pub invariant-loop : goal.invariant-loop
invariant-loop l = record {
  whole : length l.self-inside.places ≡ 2 * LEAVES;
  at : l.place ≡ (LEAVES + l.leaf) / 2 ^ l.counter;
  least : l.least ≡ key_at l.self-inside.places l.place;
  lesser : (place : ℕ) → 1 ≤ place → place < LEAVES → place ≢ l.place / 2 → IsLesser l.self-inside.places place;
  here : key_at l.self-inside.places (LEAVES + l.leaf) ≡ l.key;
  others : (other : ℕ) → other ≢ l.leaf → key_at l.self-inside.places (LEAVES + other) ≡ key_at l.initial.self-inside.places (LEAVES + other);
}
