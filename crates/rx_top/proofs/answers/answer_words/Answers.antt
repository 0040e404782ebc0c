use Rattle.rx_top.proofs.Endings.{drawn_ending, words_answered}
use Rattle.rx_top.proofs.answers.answer_words.Goals as goal

pub returns-in_default : goal.returns-in_default
returns-in_default g c = words_answered _ _ _ _ c.args.command c.in_default.not-Some c.in_ok-put.ensures c.requires.nothing

pub returns-in-Draw : goal.returns-in-Draw
returns-in-Draw g c = rw (c.in-Some.is, c.in-Draw.is) (drawn_ending c.in-Draw.number (g.S.Source.tells c.args.source.now) _ _ _ _ c.draw.ensures)
