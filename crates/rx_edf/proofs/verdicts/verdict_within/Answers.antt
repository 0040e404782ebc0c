use Rattle.std.proofs.Common.{ℕ, ap, sym, ◌∙◌, ◌≡◌, ◌≤◌, ◌-◌, arith, subst}
use Rattle.rx_edf.specs.ChargedTasks.{work_of, weighted_shortening_of, shortening_of}
use Rattle.rx_edf.specs.Verdicts.{last_by}
use Rattle.rx_edf.proofs.Needs.{IsCycle}
use Rattle.rx_edf.proofs.Answered.{cycle_whole, weighted_short, short_weighted, answer_implicit, answer_near}
use Rattle.rx_edf.proofs.verdicts.verdict_within.Goals as goal

pub returns-then-weighted-eq0 : goal.returns-then-weighted-eq0
returns-then-weighted-eq0 c system is =
    let whole : IsCycle c.args.charged.now c.args.cycle = subst (IsCycle c.args.charged.now) (sym c.requires.cycle.0) (cycle_whole c.args.charged.now c.requires.charged) in
    let fits : work_of c.args.charged.now c.args.cycle ≤ c.args.cycle = omega (arith, c.work_of-work.ensures, c.if-work-cycle.false) in
    sym (answer_implicit system c.args.charged.now c.args.cycle is fits (weighted_short c.args.charged.now c.args.cycle c.requires.charged whole (sym c.weighted_shortening_of-weighted.ensures ∙ c.if-weighted-eq0.true)))

pub returns : goal.returns
returns c system is =
    let fits : work_of c.args.charged.now c.args.cycle ≤ c.args.cycle = omega (arith, c.work_of-work.ensures, c.if-work-cycle.false) in
    let short : 1 ≤ shortening_of c.args.charged.now = some (weighted_shortening_of c.args.charged.now c.args.cycle) (shortening_of c.args.charged.now) (short_weighted c.args.charged.now c.args.cycle) (omega (arith, c.weighted_shortening_of-weighted.ensures, c.if-weighted-eq0.false)) in
    let last : c.last_point.result ≡ last_by c.args.cycle (c.args.cycle - work_of c.args.charged.now c.args.cycle) (weighted_shortening_of c.args.charged.now c.args.cycle) =
    c.last_point.ensures.value ∙ ap (λ (n : ℕ). last_by c.args.cycle (c.args.cycle - n) c.weighted_shortening_of-weighted.result) c.work_of-work.ensures
    ∙ ap (last_by c.args.cycle (c.args.cycle - work_of c.args.charged.now c.args.cycle)) c.weighted_shortening_of-weighted.ensures
    in
    c.verdict_up_to.ensures system is ∙ sym (answer_near system c.args.charged.now c.args.cycle c.last_point.result is c.requires.cycle.0 fits short last)
  where
    some : (a b : ℕ) → (b ≡ 0 → a ≡ 0) → 1 ≤ a → 1 ≤ b
    some a b h one = grind arith
