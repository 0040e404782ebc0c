use Rattle.rx_table.proofs.closings.finish.Given as goal

abbrev pub ghosts-record_history : goal.ghosts-record_history
ghosts-record_history a = record { layout = a._layout.now; words = a._words.now; view = a.perch.now.view }
