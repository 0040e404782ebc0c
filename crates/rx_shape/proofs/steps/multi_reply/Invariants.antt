use Rattle.std.proofs.Common.{ℕ, ◌≡◌, List, drop}
use Rattle.rx_seq.specs.Table.{first_difference}
use Rattle.rx_shape.specs.Walks.{Begins}
use Rattle.rx_shape.proofs.steps.multi_reply.Given as goal

abbrev pub invariant-loop-row : goal.invariant-loop-row
invariant-loop-row l = (state : List ℕ) → Begins l.words state → first_difference state (drop l.row-index l.rows) ≡ first_difference state l.rows
