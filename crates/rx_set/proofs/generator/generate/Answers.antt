use Rattle.std.proofs.Common.{◌∙◌, sym, subst}
use Rattle.rx_set.specs.Valid.{IsValid}
use Rattle.rx_set.proofs.Draws.{generated_made}
use Rattle.rx_set.proofs.ValidSets.{generated_valid}
use Rattle.rx_set.proofs.generator.generate.Goals as goal

pub build-requires : goal.build-requires
build-requires c =
    let made = generated_made c.args.number _ _ _ _ _ _ _ _ c.seed_from_u64-rng.ensures c.draw_policy-policy.ensures.value c.draw_policy-policy.ensures.after
    c.draw-more.ensures.value c.draw-more.ensures.after c.in_ok-objects.ensures c.in_ok-tasks.ensures c.new.ensures.items in
    subst IsValid (sym made) (generated_valid c.args.number)

pub returns-clause-set : goal.returns-clause-set
returns-clause-set c =
    c.build.ensures
    ∙ generated_made c.args.number _ _ _ _ _ _ _ _ c.seed_from_u64-rng.ensures c.draw_policy-policy.ensures.value c.draw_policy-policy.ensures.after
    c.draw-more.ensures.value c.draw-more.ensures.after c.in_ok-objects.ensures c.in_ok-tasks.ensures c.new.ensures.items

pub returns-clause-valid : goal.returns-clause-valid
returns-clause-valid c = generated_valid c.args.number

pub returns-in_err-tasks-clause-valid : goal.returns-in_err-tasks-clause-valid
returns-in_err-tasks-clause-valid c = generated_valid c.args.number

pub returns-in_err-objects-clause-valid : goal.returns-in_err-objects-clause-valid
returns-in_err-objects-clause-valid c = generated_valid c.args.number
