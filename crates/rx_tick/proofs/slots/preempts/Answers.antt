use Rattle.std.proofs.Common.{◌∙◌, ◌&&◌, nat_lt, not, Bool, ap, sym, arith}
use Rattle.std.proofs.lemmas.Bool.Decides.{nat_tests}
use Rattle.rx_slots.specs.Schedule.{is_finished}
use Rattle.rx_tick.specs.States.{state_at}
use Rattle.rx_tick.proofs.Told.{finished_is}
use Rattle.rx_tick.proofs.Moves.{preempts_is}
use Rattle.rx_tick.proofs.slots.preempts.Goals as goal

pub returns-then-is_same : goal.returns-then-is_same
returns-then-is_same c = λ system past time kept.
    ap (λ (b : Bool). not b && not (is_finished system past c.args.job)) (sym (sym c.is_same.ensures ∙ c.if-is_same.true))

pub returns : goal.returns
returns c = λ system past time kept.
    let mine = c.args.job in
    let s = state_at c.args.states.now mine.task in
    let finished = finished_is system past time mine.task s (kept.each mine.task (omega (arith, c.requires.known, kept.count))) mine.number c.requires.number in
    preempts_is system past mine c.args.by (nat_lt s.finished mine.number) (sym c.is_same.ensures ∙ c.if-is_same.false) (finished ∙ grind (arith, nat_tests))
