use Rattle.std.proofs.Common.{ℕ, sym, ◌∙◌, ◌≢◌, subst, arith}
use mathlib.Core.Logic.{dite}
use native.Mathlib.Decide.{ℕ_discrete}
use Rattle.rx_shape.specs.Nodes.{no_place, first_of, spare_of}
use Rattle.rx_shape.specs.Forms.{InRange}
use Rattle.rx_nodes.specs.Copies.{leads}
use Rattle.rx_nodes.specs.Chains.{HaveNone}
use Rattle.rx_nodes.proofs.Facts.{none_place, none_long, none_full}
use Rattle.rx_nodes.proofs.Stepping.{told_by}
use Rattle.rx_nodes.proofs.steps.reach.Goals.{else-is_place-via-then-is_place+else-nodes-least_spares, else-is_place-via-else-is_place}
use Rattle.rx_nodes.proofs.steps.reach.Goals as goal

pub returns-else-is_place-clause-told : goal.returns-else-is_place-clause-told
returns-else-is_place-clause-told c =
    let home = c.args.home.now in let head : ℕ = c.args.head in let nodes = c.args.nodes.now in
    let ne : leads (first_of head) nodes ≢ no_place = λ e. c.if-place-eq-NO_PLACE.false (c.requires.place ∙ e) in
    let none : HaveNone home head nodes = elim c.else-is_place.branch [
      | else-is_place-via-then-is_place+else-nodes-least_spares w ↦ dite (ℕ_discrete (spare_of head) no_place)
          (λ e. none_long home c.requires.serves.places head nodes ne (let z = w.least_spares.ensures.none e in let l = w.if-nodes-least_spares.false in omega arith))
          (λ far. none_full home c.requires.serves.places head nodes ne far (let z = w.least_spares.ensures.some far in let l = w.if-nodes-least_spares.false in omega arith))
      | else-is_place-via-else-is_place w ↦ none_place home c.requires.serves.places head nodes ne (λ in_range. c.is_place.ensures.no w.if-is_place.false (subst (InRange home) (sym c.requires.place) in_range))
    ] in
    told_by _ _ _ _ _ (c.requires.passed.lined.inside, none)
