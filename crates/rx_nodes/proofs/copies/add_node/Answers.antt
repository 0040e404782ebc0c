use Rattle.std.proofs.Common.{arith}
use Rattle.rx_shape.specs.Nodes.{first_of as first_in, spare_of as spare_in}
use Rattle.rx_shape.specs.Words.{low_of as low_in}
use Rattle.rx_nodes.proofs.Written.{writes_many, pairs_all, pairs_last}
use Rattle.rx_nodes.proofs.copies.add_node.Goals as goal

pub write_own-requires-clause-writes : goal.write_own-requires-clause-writes
write_own-requires-clause-writes c =
    let many = writes_many _ c.args.own.now c.args.nodes.now _ c.copy_path.new.out.writes.items c.copy_path.ensures.writes in
    let room = c.requires.room in let few = c.requires.few in omega arith

pub write_own-requires-clause-pairs : goal.write_own-requires-clause-pairs
write_own-requires-clause-pairs c =
    let many = pairs_all (low_in c.args.root) (first_in c.args.head) c.args.nodes.now c.copy_path.new.out.trade.pairs.items c.copy_path.ensures.pairs in
    let room = c.requires.room in let few = c.requires.few in omega arith

pub returns-clause-pairs : goal.returns-clause-pairs
returns-clause-pairs c =
    let room = c.requires.room in let few = c.requires.few in
    pairs_last (low_in c.args.root) (first_in c.args.head) c.args.nodes.now _ c.spare_of.result (spare_in c.args.head) c.copy_path.new.out.trade.pairs.items c.write_own.new.out.trade.pairs.items
    c.write_own.ensures.pairs (omega arith) c.copy_path.ensures.pairs c.spare_of.ensures.value
