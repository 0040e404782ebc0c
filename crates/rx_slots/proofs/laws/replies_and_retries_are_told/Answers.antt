use Rattle.rx_slots.proofs.Decisions.{reply_true, retry_true, true_reply, true_retry}
use Rattle.rx_slots.proofs.Tallies.{told_count}
use Rattle.rx_slots.proofs.laws.replies_and_retries_are_told.Goals as goal

pub returns-clause-replies : goal.returns-clause-replies
returns-clause-replies c = λ system n at first job item reply tag.
    (reply_true system n at first job item reply tag, λ h. true_reply system n at first job item reply tag h.0 h.1)

pub returns-clause-retries : goal.returns-clause-retries
returns-clause-retries c = λ system n at first job item expected found.
    (retry_true system n at first job item expected found, λ h. true_retry system n at first job item expected found h.0 h.1)

pub returns-clause-count : goal.returns-clause-count
returns-clause-count c = told_count
