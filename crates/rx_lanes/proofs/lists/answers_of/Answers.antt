use Rattle.std.proofs.Common.{ℕ, ◌≡◌, ◌<◌, ◌≤◌, ◌+◌, ◌%◌, ◌∙◌, List, length, take, drop, ap, ap₂, sym, arith, eq-eqb}
use Rattle.std.proofs.Math.Nat.{mod-lt}
use Rattle.rx_lanes.specs.declared.answers.Answer.{Answer}
use Rattle.rx_lanes.proofs.Parts.{calls_within}
use Rattle.rx_lanes.proofs.Listing.{items_here}
use Rattle.rx_lanes.proofs.lists.answers_of.Goals as goal

pub split_at-requires : goal.split_at-requires
split_at-requires c =
    let lane : c.args.task % c.args.workers < c.args.workers = mod-lt c.args.task (omega (arith, c.requires.limits.0)) in
    let here = c.as_slice.ensures.value ∙ items_here c.args.answers.now (c.args.task % c.args.workers) c.index-answers-lane.result (omega (arith, lane, c.requires.many)) c.index-answers-lane.is in
    let many = c.requires.each (c.args.task % c.args.workers) lane in
    let within = calls_within c.args.set.now c.args.jobs c.args.workers (c.args.task % c.args.workers) c.args.task (length c.args.set.now.tasks) c.requires.task (eq-eqb (c.args.task % c.args.workers) (c.args.task % c.args.workers) Rattle.std.proofs.Common.refl) in
    omega (arith, ap length here, many, within, c.count_calls-start.ensures.count)

pub split_at-requires-2 : goal.split_at-requires-2
split_at-requires-2 c =
    let lane : c.args.task % c.args.workers < c.args.workers = mod-lt c.args.task (omega (arith, c.requires.limits.0)) in
    let here = c.as_slice.ensures.value ∙ items_here c.args.answers.now (c.args.task % c.args.workers) c.index-answers-lane.result (omega (arith, lane, c.requires.many)) c.index-answers-lane.is in
    let many = c.requires.each (c.args.task % c.args.workers) lane in
    let within = calls_within c.args.set.now c.args.jobs c.args.workers (c.args.task % c.args.workers) c.args.task (length c.args.set.now.tasks) c.requires.task (eq-eqb (c.args.task % c.args.workers) (c.args.task % c.args.workers) Rattle.std.proofs.Common.refl) in
    omega (arith, ap length here, many, within, c.count_calls-start.ensures.count, c.count_script.ensures.count, c.split_at.ensures.back_len)

pub returns-clause-value : goal.returns-clause-value
returns-clause-value c =
    let lane : c.args.task % c.args.workers < c.args.workers = mod-lt c.args.task (omega (arith, c.requires.limits.0)) in
    let here = c.as_slice.ensures.value ∙ items_here c.args.answers.now (c.args.task % c.args.workers) c.index-answers-lane.result (omega (arith, lane, c.requires.many)) c.index-answers-lane.is in
    c.split_at-2.ensures.front
    ∙ ap₂ (λ (n : ℕ) (xs : List Answer). take n xs) c.count_script.ensures.count (c.split_at.ensures.back ∙ ap₂ (λ (n : ℕ) (xs : List Answer). drop n xs) c.count_calls-start.ensures.count here)
