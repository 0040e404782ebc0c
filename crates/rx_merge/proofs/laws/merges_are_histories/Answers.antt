use Rattle.std.proofs.Common.{sym}
use Rattle.rx_merge.proofs.Whole.{merged_are, merged_same, merged_others, merged_tag, merged_state, merged_count}
use Rattle.rx_merge.proofs.laws.merges_are_histories.Goals as goal

pub returns-clause-legal : goal.returns-clause-legal
returns-clause-legal c = λ parts objects lists history are. (merged_are c.quiet_calls_stay.ensures.quiet c.states_are_kept.ensures.replayed parts objects lists history are).legal

pub returns-clause-callers : goal.returns-clause-callers
returns-clause-callers c = λ parts objects lists history are caller h. sym ((merged_are c.quiet_calls_stay.ensures.quiet c.states_are_kept.ensures.replayed parts objects lists history are).own caller h)

pub returns-clause-same : goal.returns-clause-same
returns-clause-same c = merged_others c.quiet_calls_stay.ensures.quiet c.states_are_kept.ensures.replayed

pub returns-clause-loud : goal.returns-clause-loud
returns-clause-loud c = λ parts objects lists history are. (merged_same c.quiet_calls_stay.ensures.quiet c.states_are_kept.ensures.replayed parts objects lists history are).loud

pub returns-clause-all : goal.returns-clause-all
returns-clause-all c = λ parts objects lists history are. (merged_same c.quiet_calls_stay.ensures.quiet c.states_are_kept.ensures.replayed parts objects lists history are).on

pub returns-clause-ends : goal.returns-clause-ends
returns-clause-ends c = λ parts objects lists history are object. (
  merged_tag c.quiet_calls_stay.ensures.quiet c.states_are_kept.ensures.replayed parts objects lists history are object,
  merged_state c.quiet_calls_stay.ensures.quiet c.states_are_kept.ensures.replayed parts objects lists history are object,
)

pub returns-clause-whole : goal.returns-clause-whole
returns-clause-whole c = merged_count c.quiet_calls_stay.ensures.quiet c.states_are_kept.ensures.replayed
