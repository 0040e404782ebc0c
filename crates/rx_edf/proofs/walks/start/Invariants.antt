use Rattle.std.proofs.Common.{ℕ, ◌≡◌, ◌≤◌, ◌<◌, ◌+◌, ◌-◌, ◌*◌, ◌^◌}
use Rattle.rx_tree.specs.declared.trees.TheConstants.{LEAVES}
use Rattle.rx_tree.specs.Trees.{key_at}
use Rattle.rx_edf.specs.ChargedTasks.{charged_task_at}
use Rattle.rx_edf.proofs.walks.start.Given as goal

abbrev pub invariant-loop-place : goal.invariant-loop-place
invariant-loop-place l = record {
  keys : (place : ℕ) → place < l.place → key_at l.tree place ≡ LEAVES * (charged_task_at l.charged place).deadline + place;
  rest : (place : ℕ) → l.place ≤ place → place < LEAVES → key_at l.tree place ≡ 2 ^ 64 - 1;
}
