use Rattle.std.proofs.Common.{◌≡◌, ◌+◌, ◌++◌, List, take, length, vec_capacity}
use Rattle.rx_lanes.specs.Lists.{IsTold}
use Rattle.rx_set.specs.Operations.{Asked, operations_of}
use Rattle.rx_lanes.proofs.lists.add_job.Given as goal

abbrev pub invariant-loop-item : goal.invariant-loop-item
invariant-loop-item l = record {
  many : length l.list.items ≡ length l.fn.list.items + length (operations_of (take l.item-index l.items));
  room : vec_capacity l.list ≡ vec_capacity l.fn.list;
  told : (script : List Asked) → IsTold l.caller script (take (length l.fn.list.items) l.answers) l.fn.list.items
      → IsTold l.caller (script ++ operations_of (take l.item-index l.items)) (take (length l.list.items) l.answers) l.list.items;
}
