use Rattle.rx_shape.proofs.Local.{local, same_form}
use Rattle.rx_shape.proofs.laws.live_words_decide.Goals as goal

pub returns-clause-words : goal.returns-clause-words
returns-clause-words c home root words others v same = local home root words others v same

pub returns-clause-root : goal.returns-clause-root
returns-clause-root c home root new words e v = let s = same_form home root new words e in (s.2 v, s.0, s.1)
