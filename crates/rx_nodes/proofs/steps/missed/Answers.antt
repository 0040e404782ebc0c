use Rattle.std.proofs.Common.{ℕ, List, refl, sym, subst, ◌-◌, ◌++◌, ◌∷◌, [], ◌<◌, length, take, arith}
use Rattle.std.specs.Prelude.{slice_index}
use Rattle.std.proofs.lemmas.List.{length-take-le}
use Rattle.rx_seq.specs.declared.replies.Reply.TheVariants.{Full, Absent, No}
use Rattle.rx_nodes.specs.Chains.{IsKept, IsAddition}
use Rattle.rx_nodes.proofs.Wanting.{last_apart}
use Rattle.rx_nodes.proofs.Ending.{passed_full, passed_added, passed_absent, passed_no, above_call}
use Rattle.rx_nodes.proofs.Stepping.{told_by}
use Rattle.rx_nodes.proofs.steps.missed.Goals as goal

pub add-requires-clause-full : goal.add-requires-clause-full
add-requires-clause-full c none =
    let nodes = c.args.nodes.now in
    subst (λ (ns : List ℕ). IsKept c.args.home.now c.args.call.now c.args.head ns Full) (sym (last_apart nodes c.requires.some))
    (passed_full c.args.home.now c.args.call.now c.args.head (take (length nodes - 1) nodes) (slice_index nodes (length nodes - 1)) c.requires.serves c.requires.below c.in-Insert.k c.in-Insert.is c.requires.above none)

pub add-requires-clause-addition : goal.add-requires-clause-addition
add-requires-clause-addition c some =
    let nodes = c.args.nodes.now in
    let few = c.requires.lined.few in let any = c.requires.some in
    let long = length-take-le (length nodes - 1) nodes (omega arith) in
    let xs : List ℕ = take (length nodes - 1) nodes in
    subst (λ (ns : List ℕ). IsAddition c.args.home.now c.args.call.now c.args.head ns (length nodes - 1) c.args.place) (sym (last_apart nodes c.requires.some))
    (subst (λ (n : ℕ). IsAddition c.args.home.now c.args.call.now c.args.head (xs ++ slice_index nodes (length nodes - 1) ∷ []) n c.args.place) long
    (subst (λ (p : ℕ). IsAddition c.args.home.now c.args.call.now c.args.head (xs ++ slice_index nodes (length nodes - 1) ∷ []) (length xs) p) (sym c.requires.place)
    (passed_added c.args.home.now c.args.call.now c.args.head xs (slice_index nodes (length nodes - 1)) c.requires.serves c.requires.below c.in-Insert.k c.in-Insert.is c.requires.above some (omega arith) (subst (λ (p : ℕ). p < 16777216) c.requires.place c.requires.small))))

pub returns-in-Remove-clause-told : goal.returns-in-Remove-clause-told
returns-in-Remove-clause-told c =
    let nodes = c.args.nodes.now in
    told_by _ _ _ _ _ (
      c.requires.lined,
      subst (λ (ns : List ℕ). IsKept c.args.home.now c.args.call.now c.args.head ns Absent) (sym (last_apart nodes c.requires.some))
          (passed_absent c.args.home.now c.args.call.now c.args.head (take (length nodes - 1) nodes) (slice_index nodes (length nodes - 1)) c.requires.serves c.requires.below c.in-Remove.k c.in-Remove.is c.requires.above),
    )

pub returns-in_default : goal.returns-in_default
returns-in_default c =
    let nodes = c.args.nodes.now in
    let other = above_call c.args.call.now _ c.requires.above c.in_default.not-Insert c.in_default.not-Remove in
    record {
      told = told_by _ _ _ _ _ (
        c.requires.lined,
        subst (λ (ns : List ℕ). IsKept c.args.home.now c.args.call.now c.args.head ns No) (sym (last_apart nodes c.requires.some))
            (passed_no c.args.home.now c.args.call.now c.args.head (take (length nodes - 1) nodes) (slice_index nodes (length nodes - 1)) c.requires.serves c.requires.below other.0 other.1 c.requires.above),
      );
      taken = λ root. refl;
    }
