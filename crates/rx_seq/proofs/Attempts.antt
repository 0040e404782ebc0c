-- An attempt has few steps.
use Rattle.std.proofs.Common.{ℕ, ◌≤◌, arith}
use Rattle.rx_seq.specs.declared.kinds.Kind.{Kind}
use Rattle.rx_seq.specs.declared.kinds.Kind.TheVariants.{Cell, Queue, Registers, List as Ordered}
use Rattle.rx_seq.specs.declared.kinds.Part.{Part}
use Rattle.rx_seq.specs.Table.{IsCap, IsPart, attempt_by, attempt_steps}

few_by : (kind : Kind) (cap : ℕ) → IsCap kind cap → (2 ≤ attempt_by kind cap) × (attempt_by kind cap ≤ 134)
few_by Cell cap is = (omega arith, omega arith)
few_by Queue cap is = (omega (arith, is.1), omega (arith, is.1))
few_by Ordered cap is = (omega (arith, is.1), omega (arith, is.1))
few_by Registers cap is = (omega (arith, is.1), omega (arith, is.1))

pub few_steps : (part : Part) → IsPart part → (2 ≤ attempt_steps part) × (attempt_steps part ≤ 134)
few_steps part is = few_by part.kind part.cap is
