-- What tasks ask of the shared objects.
use Rattle.std.specs.Prelude.{ℕ, zero, suc, List, [], ◌∷◌, ◌++◌}
use Rattle.std.specs.List.{flat_map}
use Rattle.rx_seq.specs.declared.calls.Call.{Call}
use Rattle.rx_seq.specs.declared.entries.Entry.{Entry}
use Rattle.rx_set.specs.declared.items.Item.{Item}
use Rattle.rx_set.specs.declared.items.Item.TheVariants.{Work, Op}
use Rattle.rx_set.specs.System.{System, task_at}

-- one operation: a call on an object
pub record Asked : Type 0 where
  pub object : ℕ
  pub call : Call

abbrev pub asked : ℕ → Call → Asked
asked object call = record { object = object; call = call }

-- what an entry was asked
abbrev pub asked_of : Entry → Asked
asked_of entry = asked entry.object entry.call

-- what an item asks for, which is nothing for work; the operations among the items of a body, in order
abbrev pub operation_of : Item → List Asked
operation_of (Work ticks) = []
operation_of (Op object call) = asked object call ∷ []

abbrev pub operations_of : List Item → List Asked
operations_of items = flat_map operation_of items

-- operations so many times, one time after the other
abbrev pub repeated : ℕ → List Asked → List Asked
repeated zero operations = []
repeated (suc times) operations = repeated times operations ++ operations

-- the script of a task: the operations of its body, once for each of so many jobs
abbrev pub script_of : System → ℕ → ℕ → List Asked
script_of system jobs task = repeated jobs (operations_of (task_at system task).items)
