use Rattle.std.proofs.Common.{ℕ, ◌≡◌, ◌<◌, ◌+◌, ◌*◌, ◌/◌, ◌^◌, min, set, ap, sym, ◌∙◌, subst, arith, length-set}
use Rattle.std.specs.Prelude.{bit_xor}
use Rattle.rx_tree.specs.declared.trees.TheConstants.{LEAVES}
use Rattle.rx_tree.specs.Trees.{IsLesser, key_at}
use Rattle.rx_tree.proofs.Leaves.{next_place, place_inside, key_here, key_other, lesser_above, tree_whole, leaf_is}
use Rattle.rx_tree.proofs.trees.Tree.put.Goals as goal

pub loop-preserved : goal.loop-preserved
loop-preserved c =
    let inside : c.loop.place < 2 * LEAVES = place_inside c.args.leaf c.loop.counter c.loop.place c.requires c.loop.invariant.at in
    let value : c.min-least.result ≡ min c.loop.least (key_at c.loop.self-inside.places (bit_xor c.loop.place 1)) = c.min-least.ensures in
    record {
      whole = length-set c.loop.self-inside.places (c.loop.place / 2) c.min-least.result ∙ c.loop.invariant.whole;
      at = next_place c.args.leaf c.loop.counter c.loop.place c.loop.invariant.at;
      least = sym (key_here c.loop.self-inside.places (c.loop.place / 2) c.min-least.result c.loop.invariant.whole (omega (arith, inside)));
      lesser = λ place some high apart.
          subst (λ (n : ℕ). IsLesser (set c.loop.self-inside.places (c.loop.place / 2) n) place) (sym value)
          (lesser_above c.loop.self-inside.places c.loop.place c.loop.least place c.loop.invariant.whole inside c.loop.invariant.least c.loop.invariant.lesser some high apart);
      here = key_other c.loop.self-inside.places (c.loop.place / 2) (LEAVES + c.args.leaf) c.min-least.result (λ e. absurd (omega (arith, e, inside))) ∙ c.loop.invariant.here;
      others = λ other apart. key_other c.loop.self-inside.places (c.loop.place / 2) (LEAVES + other) c.min-least.result (λ e. absurd (omega (arith, e, inside))) ∙ c.loop.invariant.others other apart;
    }

pub invariant_of-self : goal.invariant_of-self
invariant_of-self c =
    let all : c.loop.counter ≡ 6 = omega (arith, c.loop-test.false, c.loop.auto.counter-end) in
    tree_whole c.loop.self-inside.places c.args.leaf c.loop.place c.loop.invariant.whole c.requires (c.loop.invariant.at ∙ ap (λ (n : ℕ). (LEAVES + c.args.leaf) / 2 ^ n) all) c.loop.invariant.lesser

pub returns-clause-here : goal.returns-clause-here
returns-clause-here c = leaf_is c.loop.self-inside.places c.args.leaf ∙ c.loop.invariant.here

pub returns-clause-others : goal.returns-clause-others
returns-clause-others c other apart =
    leaf_is c.loop.self-inside.places other ∙ c.loop.invariant.others other apart
    ∙ key_other c.self.inside.places (LEAVES + c.args.leaf) (LEAVES + other) c.args.key (λ e. apart (omega (arith, e)))
    ∙ sym (leaf_is c.self.inside.places other) ∙ ap (λ keys. key_at keys other) c.self.view_is
