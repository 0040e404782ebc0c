-- An object under a lock.
use Rattle.std.specs.Prelude.{ℕ, List}
use Rattle.rx_seq.specs.declared.kinds.Part.{Part}

-- the part and the state of an object under a lock
pub record Held : Type 0 where
  pub part : Part
  pub state : List ℕ
