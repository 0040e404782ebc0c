use Rattle.std.proofs.Common.{ℕ, List, ◌<◌, ◌-◌, length, take, refl, sym, ap, ◌∙◌, subst, inl, inr, arith}
use Rattle.std.specs.Prelude.{slice_index}
use Rattle.rx_seq.specs.declared.calls.Call.{Call}
use Rattle.rx_shape.specs.Places.{times}
use Rattle.rx_shape.specs.Nodes.{first_of, value_of}
use Rattle.rx_shape.specs.Forms.{InRange}
use Rattle.rx_nodes.specs.Copies.{stations, leads}
use Rattle.rx_nodes.specs.Chains.{HaveNone, IsAbove, IsBelow, IsLined, IsPassed, IsRemoval}
use Rattle.rx_nodes.proofs.Wanting.{last_apart}
use Rattle.rx_nodes.proofs.Facts.{none_great}
use Rattle.rx_nodes.proofs.Stepping.{told_by, inside_more, lined_more, passed_more, leads_more, node_bounds}
use Rattle.rx_nodes.proofs.Ending.{above_by, take_call, took_by}
use Rattle.rx_nodes.proofs.steps.after_node.Goals as goal

pub returns-then-word-ge-WORD_LIMIT-clause-told : goal.returns-then-word-ge-WORD_LIMIT-clause-told
returns-then-word-ge-WORD_LIMIT-clause-told c =
    let home = c.args.home.now in let head = c.args.head in let nodes = c.args.nodes.now in
    let xs : List ℕ = take (length nodes - 1) nodes in
    let w : ℕ = slice_index nodes (length nodes - 1) in
    told_by _ _ _ _ _ (
      subst (λ (ns : List ℕ). (p : ℕ) → 0 < times p (stations (first_of head) ns) → InRange home p) (sym (last_apart nodes c.requires.some)) (inside_more home c.args.call.now head xs c.args.place w c.requires.going),
      subst (λ (ns : List ℕ). HaveNone home head ns) (sym (last_apart nodes c.requires.some)) (none_great home c.requires.serves.form head xs w c.if-word-ge-WORD_LIMIT.true),
    )

pub reach-requires-clause-passed : goal.reach-requires-clause-passed
reach-requires-clause-passed c =
    let home = c.args.home.now in let head = c.args.head in let nodes = c.args.nodes.now in
    let xs : List ℕ = take (length nodes - 1) nodes in
    let w : ℕ = slice_index nodes (length nodes - 1) in
    let passes = c.requires.limit.passes w c.if-word-limit.true in
    subst (λ (ns : List ℕ). IsPassed home c.args.call.now head ns) (sym (last_apart nodes c.requires.some))
    (passed_more home c.args.call.now head xs c.args.place w c.requires.going passes.0 passes.1)

pub reach-requires-clause-place : goal.reach-requires-clause-place
reach-requires-clause-place c =
    let nodes = c.args.nodes.now in
    c.next_of.ensures.value ∙ sym (ap (leads (first_of c.args.head)) (last_apart nodes c.requires.some) ∙ leads_more (first_of c.args.head) (take (length nodes - 1) nodes) (slice_index nodes (length nodes - 1)))

pub found-requires-clause-lined : goal.found-requires-clause-lined
found-requires-clause-lined c =
    let nodes = c.args.nodes.now in
    subst (λ (ns : List ℕ). IsLined c.args.home.now c.args.call.now c.args.head ns) (sym (last_apart nodes c.requires.some))
    (lined_more c.args.home.now c.args.call.now c.args.head (take (length nodes - 1) nodes) c.args.place (slice_index nodes (length nodes - 1)) c.requires.going c.if-word-ge-WORD_LIMIT.false)

pub missed-requires-clause-lined : goal.missed-requires-clause-lined
missed-requires-clause-lined c =
    let nodes = c.args.nodes.now in
    subst (λ (ns : List ℕ). IsLined c.args.home.now c.args.call.now c.args.head ns) (sym (last_apart nodes c.requires.some))
    (lined_more c.args.home.now c.args.call.now c.args.head (take (length nodes - 1) nodes) c.args.place (slice_index nodes (length nodes - 1)) c.requires.going c.if-word-ge-WORD_LIMIT.false)

pub returns-in_default : goal.returns-in_default
returns-in_default c =
    let home = c.args.home.now in let head = c.args.head in let nodes = c.args.nodes.now in
    let xs : List ℕ = take (length nodes - 1) nodes in
    let w : ℕ = slice_index nodes (length nodes - 1) in
    let is = take_call home.part.kind home.part.cap c.args.call.now c.requires.serves.form c.requires.serves.fits (λ v put. let less = c.requires.limit.stops w (omega arith) (subst (λ (call : Call). IsBelow call (value_of w)) (sym put) refl) in let more = c.if-word-limit.false in omega arith) c.in_default.not-Insert c.in_default.not-Remove c.in_default.not-Has in
    let bounds = node_bounds home.part.kind home.part.cap c.requires.serves.form c.requires.serves.part in
    record {
      told = told_by _ _ _ _ _ (
        subst (λ (ns : List ℕ). IsLined home c.args.call.now head ns) (sym (last_apart nodes c.requires.some)) (lined_more home c.args.call.now head xs c.args.place w c.requires.going c.if-word-ge-WORD_LIMIT.false),
        subst (λ (ns : List ℕ). IsRemoval home c.args.call.now head ns) (sym (last_apart nodes c.requires.some)) (took_by home c.args.call.now head xs w c.args.place is c.requires.going c.requires.serves.places bounds.least),
      );
      taken = λ root. refl;
    }

pub missed-requires-clause-above : goal.missed-requires-clause-above
missed-requires-clause-above c =
    let nodes = c.args.nodes.now in
    let w : ℕ = slice_index nodes (length nodes - 1) in
    let k : ℕ = c.in-Insert.k in
    let differs = c.if-value_of-k.false in
    let value = c.value_of.ensures in
    let high = c.if-word-limit.false in
    let small = c.if-word-ge-WORD_LIMIT.false in
    let over : IsBelow c.args.call.now (value_of w) → ⊥ = λ below. let less = c.requires.limit.stops w small below in omega arith in
    elim c.in-Insert.is [
      | inl i ↦ subst (λ (call : Call). IsAbove call (value_of w)) (sym i) (above_by k (value_of w) (λ below. over (subst (λ (call : Call). IsBelow call (value_of w)) (sym i) below)) (λ e. differs (value ∙ e)))
      | inr more ↦ elim more [
        | inl r ↦ subst (λ (call : Call). IsAbove call (value_of w)) (sym r) (above_by k (value_of w) (λ below. over (subst (λ (call : Call). IsBelow call (value_of w)) (sym r) below)) (λ e. differs (value ∙ e)))
        | inr h ↦ subst (λ (call : Call). IsAbove call (value_of w)) (sym h) (above_by k (value_of w) (λ below. over (subst (λ (call : Call). IsBelow call (value_of w)) (sym h) below)) (λ e. differs (value ∙ e)))
      ]
    ]
