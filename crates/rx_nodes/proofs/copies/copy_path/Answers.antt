use Rattle.std.proofs.Common.{◌∷◌, length, sym, ap, ◌∙◌, List, arith}
use Rattle.std.proofs.lemmas.List.{length-take-le, take_all}
use Rattle.rx_shape.specs.declared.plans.Write.{Write}
use Rattle.rx_shape.specs.Nodes.{first_of as first_in, header_word}
use Rattle.rx_shape.specs.Words.{low_of as low_in}
use Rattle.rx_nodes.specs.Copies.{copies, lead}
use Rattle.rx_nodes.proofs.Paths.{length-copies}
use Rattle.rx_nodes.proofs.Written.{pairs_many, writes_turn, pairs_turn, leads_turn}
use Rattle.rx_nodes.proofs.copies.copy_path.Goals.{then-n-nodes, else-n-nodes}
use Rattle.rx_nodes.proofs.copies.copy_path.Goals as goal

pub write_own-requires-in-loop-n-clause-writes : goal.write_own-requires-in-loop-n-clause-writes
write_own-requires-in-loop-n-clause-writes c =
    let below = c.loop-n-test.true in
    let a = ap length c.loop-n.invariant.writes in
    let b = length-take-le c.loop-n.n (copies 1 c.args.own.now c.args.nodes.now c.args.end) (let many = length-copies 1 c.args.own.now c.args.nodes.now c.args.end in omega arith) in
    let r = c.requires.room in let f = c.requires.few in omega arith

pub write_own-requires-in-loop-n-clause-pairs : goal.write_own-requires-in-loop-n-clause-pairs
write_own-requires-in-loop-n-clause-pairs c =
    let below = c.loop-n-test.true in
    let a = ap length c.loop-n.invariant.pairs in
    let b = pairs_many (low_in c.args.root) (first_in c.args.head) c.args.nodes.now c.loop-n.n (omega arith) in
    let r = c.requires.room in let f = c.requires.few in omega arith

pub loop-n-preserved : goal.loop-n-preserved
loop-n-preserved c =
    let below = c.loop-n-test.true in record {
      root = c.write_own-in-loop-n.ensures.root ∙ c.loop-n.invariant.root;
      writes = writes_turn (record { own = 0; value = header_word (lead 1 c.args.own.now c.args.nodes.now c.args.end) c.args.spare }) c.args.own.now c.args.nodes.now c.args.end c.loop-n.n c.if-n-nodes.next c.value_of.result c.node.result c.loop-n.out.writes.items c.write_own-in-loop-n.new.out.writes.items
          below c.loop-n.invariant.writes
          (λ more. elim c.if-n-nodes.branch [ then-n-nodes w ↦ w.next-is | else-n-nodes w ↦ let no = w.if-n-nodes.false in absurd (omega arith) ])
          (λ all. elim c.if-n-nodes.branch [ then-n-nodes w ↦ let yes = w.if-n-nodes.true in absurd (omega arith) | else-n-nodes w ↦ w.next-is ])
          c.value_of.ensures c.node.ensures c.write_own-in-loop-n.ensures.writes;
      pairs = pairs_turn (low_in c.args.root) (first_in c.args.head) c.args.nodes.now c.loop-n.n c.loop-n.place c.loop-n.out.trade.pairs.items c.write_own-in-loop-n.new.out.trade.pairs.items
          below c.loop-n.invariant.pairs c.loop-n.invariant.place c.write_own-in-loop-n.ensures.pairs;
      place = c.next_of-place.ensures.value ∙ sym (leads_turn (first_in c.args.head) c.args.nodes.now c.loop-n.n below);
    }

pub returns-clause-writes : goal.returns-clause-writes
returns-clause-writes c =
    let many = length-copies 1 c.args.own.now c.args.nodes.now c.args.end in
    let no = c.loop-n-test.false in
    let over = c.loop-n.auto.n-end in
    c.loop-n.invariant.writes ∙ ap (λ (ws : List Write). record { own = 0; value = header_word (lead 1 c.args.own.now c.args.nodes.now c.args.end) c.args.spare } ∷ ws) (take_all c.loop-n.n (copies 1 c.args.own.now c.args.nodes.now c.args.end) (omega arith))
