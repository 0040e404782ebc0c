-- Calls that the words taken settle.
use Rattle.std.proofs.Common.{◌≡◌, ℕ, List, sym, ◌∙◌}
use Rattle.rx_seq.specs.declared.calls.Call.{Call}
use Rattle.rx_seq.specs.Table.{effect}
use Rattle.rx_shape.specs.declared.homes.Home.{Home}
use Rattle.rx_shape.specs.declared.plans.Taken.{Taken}
use Rattle.rx_shape.specs.Forms.{decoded}
use Rattle.rx_shape.specs.Settled.{HasTaken}
use Rattle.rx_shape.specs.Asks.{IsSettled}

pub one_reply : (home : Home) (call : Call) (root : ℕ) (taken : List Taken) (words others : List ℕ) → IsSettled home call root taken → HasTaken home root taken words → HasTaken home root taken others
    → (effect home.part (decoded home root words) call).reply ≡ (effect home.part (decoded home root others) call).reply
one_reply home call root taken words others settled one other = sym (settled.says words one) ∙ settled.says others other
