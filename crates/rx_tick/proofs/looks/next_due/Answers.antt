use Rattle.std.proofs.Common.{arith, ℕ, subst, ◌≡◌, ◌+◌}
use Rattle.std.proofs.Math.Decide.{dec_le}
use Rattle.rx_tick.specs.States.{IsBeforeDue, state_at}
use Rattle.rx_tick.proofs.Told.{due_sooner}
use Rattle.rx_tick.proofs.looks.next_due.Goals as goal

pub loop-task-init : goal.loop-task-init
loop-task-init c = λ task below. absurd (omega arith)

pub loop-task-preserved : goal.loop-task-preserved
loop-task-preserved c = λ task below. elim (dec_le c.loop-task.task task) [
  | yes at ↦
      let same : c.loop-task.task ≡ task = omega arith in
      subst (λ (t : ℕ). IsBeforeDue c.args.set.now (c.args.now + 1) c.min-watch.result t (state_at c.args.states.now t)) same
      (due_sooner c.args.set.now _ c.loop-task.task c.due_after.result _ (state_at c.args.states.now c.loop-task.task) c.due_after.ensures (omega arith))
  | no before ↦ due_sooner c.args.set.now _ task c.loop-task.watch _ (state_at c.args.states.now task) (c.loop-task.invariant task (omega arith)) (omega arith)
]

pub returns : goal.returns
returns c = record { each = λ task known. c.loop-task.invariant task (omega (arith, c.requires.states.count)) }
