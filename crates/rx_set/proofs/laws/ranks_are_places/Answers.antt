use Rattle.rx_set.proofs.Ranks.{rank_bound, rank_same, rank_found, rank_order}
use Rattle.rx_set.proofs.Firsts.{ranked_is}
use Rattle.rx_set.proofs.laws.ranks_are_places.Goals as goal

pub returns-clause-range : goal.returns-clause-range
returns-clause-range c = rank_bound

pub returns-clause-apart : goal.returns-clause-apart
returns-clause-apart c = rank_same

pub returns-clause-each : goal.returns-clause-each
returns-clause-each c = rank_found

pub returns-clause-order : goal.returns-clause-order
returns-clause-order c = rank_order

pub returns-clause-named : goal.returns-clause-named
returns-clause-named c = ranked_is
