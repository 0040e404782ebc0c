-- Steps of which the first that fails gives the fault.
use Rattle.std.specs.Prelude.{Result, Ok, Err, ⊤}
use Rattle.rx_file.specs.declared.faults.FileFault.{FileFault}

infixl 10 ◌>>=◌ ◌>>◌
-- a step with the value of an earlier one
abbrev pub ◌>>=◌ : {A B : Type 0} → Result A FileFault → (A → Result B FileFault) → Result B FileFault
(Ok x) >>= f = f x
(Err fault) >>= f = Err fault

-- a step after one that only tests
abbrev pub ◌>>◌ : {B : Type 0} → Result ⊤ FileFault → Result B FileFault → Result B FileFault
(Ok passed) >> next = next
(Err fault) >> next = Err fault
