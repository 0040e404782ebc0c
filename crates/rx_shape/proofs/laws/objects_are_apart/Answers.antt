use Rattle.rx_shape.proofs.Numbering.{one_range, not_root, in_words, root_in_words}
use Rattle.rx_shape.proofs.laws.objects_are_apart.Goals as goal

pub returns-clause-apart : goal.returns-clause-apart
returns-clause-apart c layout object other place there here a b = one_range layout object other place there here a b

pub returns-clause-no_root : goal.returns-clause-no_root
returns-clause-no_root c layout object other place there h e = not_root layout object other place there h e

pub returns-clause-places : goal.returns-clause-places
returns-clause-places c layout object place there h = in_words layout object place there h

pub returns-clause-roots : goal.returns-clause-roots
returns-clause-roots c layout object there = root_in_words layout object there
