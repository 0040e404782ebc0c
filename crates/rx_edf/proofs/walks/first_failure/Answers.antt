use Rattle.std.proofs.Common.{◌%◌, sym, arith}
use Rattle.rx_tree.specs.declared.trees.TheConstants.{LEAVES}
use Rattle.rx_edf.proofs.Steps.{walk_begins, due_first, now_fails, none_fails, walk_goes_on}
use Rattle.rx_edf.proofs.walks.first_failure.Goals as goal

pub loop-key-init : goal.loop-key-init
loop-key-init c = record {
  walk = walk_begins c.args.charged.now c.start-tree.result c.args.last c.requires.charged c.start-tree.ensures.keys c.start-tree.ensures.rest;
  least = c.least-key.ensures;
}

pub bounds-charged-place : goal.bounds-charged-place
bounds-charged-place c = (due_first c.args.charged.now c.loop-key.tree c.loop-key.key c.loop-key.need c.args.last c.loop-key.invariant.walk c.loop-key.invariant.least c.loop-key-test.true c.requires.near).known

pub returns-then-need-key : goal.returns-then-need-key
returns-then-need-key c =
    let first = due_first c.args.charged.now c.loop-key.tree c.loop-key.key c.loop-key.need c.args.last c.loop-key.invariant.walk c.loop-key.invariant.least c.loop-key-test.true c.requires.near in
    sym (now_fails c.args.charged.now c.loop-key.tree c.loop-key.key c.loop-key.need c.args.last (c.loop-key.key % LEAVES) c.requires.charged c.loop-key.invariant.walk c.loop-key.invariant.least first c.loop-key-test.true c.if-need-key.true)

pub loop-key-smaller : goal.loop-key-smaller
loop-key-smaller c =
    let first = due_first c.args.charged.now c.loop-key.tree c.loop-key.key c.loop-key.need c.args.last c.loop-key.invariant.walk c.loop-key.invariant.least c.loop-key-test.true c.requires.near in
    omega (arith, c.loop-key.invariant.walk.low, (c.requires.charged.each (c.loop-key.key % LEAVES) first.known).cost.0)

pub loop-key-preserved : goal.loop-key-preserved
loop-key-preserved c =
    let first = due_first c.args.charged.now c.loop-key.tree c.loop-key.key c.loop-key.need c.args.last c.loop-key.invariant.walk c.loop-key.invariant.least c.loop-key-test.true c.requires.near in
    record {
      walk =
          walk_goes_on c.args.charged.now c.loop-key.tree c.put.new.self c.loop-key.key c.loop-key.need c.args.last (c.loop-key.key % LEAVES) c.requires.charged c.loop-key.invariant.walk c.loop-key.invariant.least first
          (record { here = c.put.ensures.here; others = c.put.ensures.others }) c.loop-key-test.true c.if-need-key.false;
      least = c.least-key-in-loop-key.ensures;
    }

pub returns : goal.returns
returns c = sym (none_fails c.args.charged.now c.loop-key.tree c.loop-key.key c.loop-key.need c.args.last c.loop-key.invariant.walk c.loop-key.invariant.least c.loop-key-test.false)
