use Rattle.std.proofs.Common.{ℕ, ◌≡◌, ◌++◌, ◌∷◌, [], sym, ap, ◌∙◌}
use Rattle.rx_shape.specs.declared.plans.Want.TheVariants.{Read}
use Rattle.rx_nodes.specs.Chains.{read_nodes, taken_as, want_as}
use Rattle.rx_nodes.specs.declared.steps.Step.{Step}
use Rattle.rx_nodes.proofs.Stepping.{told_by, nodes_more}
use Rattle.rx_nodes.proofs.nodes.NodesShape.take.Goals as goal

pub invariant_of-self-in-Spare : goal.invariant_of-self-in-Spare
invariant_of-self-in-Spare c =
    let s = c.args.self.now in
    record { form = s.form; limits = s.limits; places = s.places; fits = s.fits; passed = s.passed; says = told_by _ _ _ _ _ (s.says.spare c.in-Spare.before c.in-Spare.kept c.in-Spare.is) }

pub returns-in-Along-clause-taken : goal.returns-in-Along-clause-taken
returns-in-Along-clause-taken c root place next =
    let s = c.args.self.now in
    let going = s.says.along c.in-Along.place c.in-Along.is in
    let here : Read c.in-Along.place ≡ Read place = ap (λ (step : Step). want_as step root s.head) (sym c.in-Along.is) ∙ next in
    let same : c.in-Along.place ≡ place = cc in
    rw (c.in-Along.is)
    (ap (taken_as c.after_node-self.result root s.head) (sym c.as_slice.ensures.value) ∙ c.after_node-self.ensures.taken root ∙ ap (read_nodes root s.head) (c.as_slice.ensures.value ∙ c.push.ensures.items)
    ∙ nodes_more root s.head s.nodes.items c.args.word ∙ ap (λ (p : ℕ). read_nodes root s.head s.nodes.items ++ record { place = p; word = c.args.word } ∷ []) (sym going.next ∙ same))
