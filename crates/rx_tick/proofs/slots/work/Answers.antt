use Rattle.std.proofs.Common.{ℕ, ◌≡◌, ◌+◌, ◌-◌, ◌==◌, Bool, true, false, if◌then◌else◌, arith, ap, sym, ◌∙◌}
use Rattle.std.proofs.lemmas.Bool.Decides.{nat_tests}
use Rattle.rx_set.specs.System.{item_at}
use Rattle.rx_slots.specs.Schedule.{completed, ticked}
use Rattle.rx_tick.specs.States.{progress_of}
use Rattle.rx_tick.specs.declared.states.Made.TheVariants.{On, Ended}
use Rattle.rx_tick.proofs.Banks.{worked, made_small}
use Rattle.rx_tick.proofs.slots.work.Goals as goal

pub overflow_add-state : goal.overflow_add-state
overflow_add-state c = omega (arith, made_small c.args.set.now c.args.now c.args.job c.args.state.now c.args.objects.now c.requires.is)

equal : (a b : ℕ) → a ≡ b → (a == b) ≡ true
equal a b h = grind (arith, nat_tests)

apart : (a b : ℕ) → (a ≡ b → ⊥) → (a == b) ≡ false
apart a b h = grind (arith, nat_tests)

pub returns-then-state-ticks-clause-ticked : goal.returns-then-state-ticks-clause-ticked
returns-then-state-ticks-clause-ticked c =
    let place : c.args.state.now.complete + 1 - 1 ≡ c.args.state.now.complete = omega arith in
    let item = ap (item_at c.args.set.now c.args.job) (sym place) ∙ c.ticks.ensures in
    worked c.args.set.now c.args.now c.args.job c.args.state.now c.args.objects.now c.requires.is c.ticks.result Ended item
    (ap (λ (b : Bool). if b then completed (progress_of c.args.state.now) else ticked c.args.now (progress_of c.args.state.now)) (sym (equal _ _ c.if-state-ticks.true)))

pub returns-else-state-ticks-clause-ticked : goal.returns-else-state-ticks-clause-ticked
returns-else-state-ticks-clause-ticked c =
    let place : c.args.state.now.complete + 1 - 1 ≡ c.args.state.now.complete = omega arith in
    let item = ap (item_at c.args.set.now c.args.job) (sym place) ∙ c.ticks.ensures in
    worked c.args.set.now c.args.now c.args.job c.args.state.now c.args.objects.now c.requires.is c.ticks.result On item
    (ap (λ (b : Bool). if b then completed (progress_of c.args.state.now) else ticked c.args.now (progress_of c.args.state.now)) (sym (apart _ _ c.if-state-ticks.false)))
