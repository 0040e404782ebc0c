use Rattle.std.proofs.Common.{◌-◌, length, take, arith}
use Rattle.std.proofs.lemmas.List.{length-take-le}
use Rattle.rx_shape.specs.Nodes.{first_of as first_in}
use Rattle.rx_shape.specs.Words.{low_of as low_in}
use Rattle.rx_nodes.specs.Copies.{leads}
use Rattle.rx_nodes.proofs.Written.{writes_many, pairs_all, pairs_last}
use Rattle.rx_nodes.proofs.copies.remove_node.Goals as goal

pub write_own-requires-clause-writes : goal.write_own-requires-clause-writes
write_own-requires-clause-writes c =
    let long = length-take-le (length c.args.nodes.now - 1) c.args.nodes.now (omega arith) in
    let many = writes_many _ c.args.own.now (take (length c.args.nodes.now - 1) c.args.nodes.now) _ c.copy_path-place.new.out.writes.items c.copy_path-place.ensures.writes in
    let some = c.requires.some in let room = c.requires.room in let few = c.requires.few in omega arith

pub write_own-requires-clause-pairs : goal.write_own-requires-clause-pairs
write_own-requires-clause-pairs c =
    let long = length-take-le (length c.args.nodes.now - 1) c.args.nodes.now (omega arith) in
    let many = pairs_all (low_in c.args.root) (first_in c.args.head) (take (length c.args.nodes.now - 1) c.args.nodes.now) c.copy_path-place.new.out.trade.pairs.items c.copy_path-place.ensures.pairs in
    let some = c.requires.some in let room = c.requires.room in let few = c.requires.few in omega arith

pub returns-clause-pairs : goal.returns-clause-pairs
returns-clause-pairs c =
    let some = c.requires.some in let room = c.requires.room in let few = c.requires.few in
    let long = length-take-le (length c.args.nodes.now - 1) c.args.nodes.now (omega arith) in
    pairs_last (low_in c.args.root) (first_in c.args.head) (take (length c.args.nodes.now - 1) c.args.nodes.now) _ c.copy_path-place.result (leads (first_in c.args.head) (take (length c.args.nodes.now - 1) c.args.nodes.now)) c.copy_path-place.new.out.trade.pairs.items c.write_own.new.out.trade.pairs.items
    c.write_own.ensures.pairs (omega arith) c.copy_path-place.ensures.pairs c.copy_path-place.ensures.place
