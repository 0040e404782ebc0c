use Rattle.std.proofs.Common.{◌∙◌, ap, map, arith}
use Rattle.rx_tick.specs.States.{first_state_of}
use Rattle.rx_tick.proofs.Firsts.{firsts_all, first_states_are, first_turn}
use Rattle.rx_tick.proofs.executive.first_states.Goals as goal

pub returns-clause-states : goal.returns-clause-states
returns-clause-states c =
    first_states_are c.args.set.now c.loop-task.states.items
    c.tasks-tasks.ensures.valid
    (c.loop-task.invariant ∙ firsts_all c.tasks-tasks.result.now c.loop-task.task-index (omega arith) ∙ ap (map first_state_of) c.tasks-tasks.ensures.rows)

pub returns-clause-turn : goal.returns-clause-turn
returns-clause-turn c =
    first_turn c.args.set.now c.loop-task.states.items
    (c.loop-task.invariant ∙ firsts_all c.tasks-tasks.result.now c.loop-task.task-index (omega arith) ∙ ap (map first_state_of) c.tasks-tasks.ensures.rows)
