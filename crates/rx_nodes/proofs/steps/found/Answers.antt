use Rattle.std.proofs.Common.{ℕ, List, refl, sym, subst, ◌-◌, length, take, arith}
use Rattle.std.specs.Prelude.{slice_index}
use Rattle.std.proofs.lemmas.List.{length-take-le}
use Rattle.rx_seq.specs.declared.replies.Reply.TheVariants.{Present, Yes}
use Rattle.rx_nodes.specs.Chains.{IsKept, IsRemoval}
use Rattle.rx_nodes.proofs.Wanting.{last_apart}
use Rattle.rx_nodes.proofs.Ending.{present_by, removed_by, yes_by, sought_call}
use Rattle.rx_nodes.proofs.Stepping.{told_by}
use Rattle.rx_nodes.proofs.steps.found.Goals as goal

pub returns-in-Insert-clause-told : goal.returns-in-Insert-clause-told
returns-in-Insert-clause-told c =
    let nodes = c.args._nodes.now in
    told_by _ _ _ _ _ (
      c.requires.lined,
      subst (λ (ns : List ℕ). IsKept c.args._home.now c.args.call.now c.args._head ns Present) (sym (last_apart nodes c.requires.some))
          (present_by c.args._home.now c.args.call.now c.args._head (take (length nodes - 1) nodes) (slice_index nodes (length nodes - 1)) c.requires.serves c.requires.below c.in-Insert.k c.in-Insert.is c.requires.same),
    )

pub returns-in-Remove-clause-told : goal.returns-in-Remove-clause-told
returns-in-Remove-clause-told c =
    let nodes = c.args._nodes.now in
    let few = c.requires.lined.few in let some = c.requires.some in
    let long = length-take-le (length nodes - 1) nodes (omega arith) in
    told_by _ _ _ _ _ (
      c.requires.lined,
      subst (λ (ns : List ℕ). IsRemoval c.args._home.now c.args.call.now c.args._head ns) (sym (last_apart nodes c.requires.some))
          (removed_by c.args._home.now c.args.call.now c.args._head (take (length nodes - 1) nodes) (slice_index nodes (length nodes - 1)) c.requires.serves c.requires.below c.in-Remove.k c.in-Remove.is c.requires.same (omega arith)),
    )

pub returns-in_default : goal.returns-in_default
returns-in_default c =
    let nodes = c.args._nodes.now in
    let other = sought_call c.args.call.now _ c.requires.same c.in_default.not-Insert c.in_default.not-Remove in
    record {
      told = told_by _ _ _ _ _ (
        c.requires.lined,
        subst (λ (ns : List ℕ). IsKept c.args._home.now c.args.call.now c.args._head ns Yes) (sym (last_apart nodes c.requires.some))
            (yes_by c.args._home.now c.args.call.now c.args._head (take (length nodes - 1) nodes) (slice_index nodes (length nodes - 1)) c.requires.serves c.requires.below other.0 other.1 c.requires.same),
      );
      taken = λ root. refl;
    }
