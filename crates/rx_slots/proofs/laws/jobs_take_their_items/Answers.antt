use Rattle.rx_slots.proofs.Shares.{cut, in_hand_share, finished_share, unfinished_share, none_lost}
use Rattle.rx_slots.proofs.laws.jobs_take_their_items.Goals as goal

pub returns-clause-cut : goal.returns-clause-cut
returns-clause-cut c = cut

pub returns-clause-in_hand : goal.returns-clause-in_hand
returns-clause-in_hand c = in_hand_share

pub returns-clause-finished : goal.returns-clause-finished
returns-clause-finished c = finished_share

pub returns-clause-unfinished : goal.returns-clause-unfinished
returns-clause-unfinished c = unfinished_share

pub returns-clause-work : goal.returns-clause-work
returns-clause-work c = none_lost
