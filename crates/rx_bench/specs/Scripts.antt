-- The objects that are measured.
use Rattle.std.specs.Prelude.{◌≡◌, ◌≤◌}
use Rattle.rx_seq.specs.declared.kinds.Kind.TheVariants.{Cell, Registers}
use Rattle.rx_seq.specs.declared.kinds.Part.{Part}

-- an object that is measured is a cell, a queue or a list of any capacity, or 16 registers
pub record IsMeasured (part : Part) : Type 0 where
  pub least : 1 ≤ part.cap
  pub most : part.cap ≤ 64
  pub cell : part.kind ≡ Cell → part.cap ≡ 1
  pub registers : part.kind ≡ Registers → part.cap ≡ 16
