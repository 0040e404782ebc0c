use Rattle.std.proofs.Common.{ltb, ltb-true, ltb-false, arith, rules}
use Rattle.std.proofs.lemmas.List.Sorted.{IsPartitionPoint-from_clause, IsPartitionedBy-ltb}
use Rattle.rx_ledger.specs.Ledgers.{time_of}
use Rattle.rx_ledger.proofs.ledgers.count_before.Goals as goal

pub returns-clause-before : goal.returns-clause-before
returns-clause-before c =
    let parted = IsPartitionedBy-ltb time_of _ c.args.time c.requires in
    let point = IsPartitionPoint-from_clause (λ event. ltb (time_of event) c.args.time) _ _ c.partition_point.ensures.partitioned parted (λ a r q k. search rules) in
    let inside = c.partition_point.ensures.bound in
    λ place d h. ltb-true _ _ (point.0 place d (omega arith) h)

pub returns-clause-after : goal.returns-clause-after
returns-clause-after c =
    let parted = IsPartitionedBy-ltb time_of _ c.args.time c.requires in
    let point = IsPartitionPoint-from_clause (λ event. ltb (time_of event) c.args.time) _ _ c.partition_point.ensures.partitioned parted (λ a r q k. search rules) in
    λ place d above inside. ltb-false _ _ (point.1 place d above inside)
