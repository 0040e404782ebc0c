use Rattle.std.specs.Prelude.{[]}
use Rattle.rx_table.specs.Rule.{no_attempt}
use Rattle.rx_table.proofs.joins.another.Given as goal

abbrev pub ghosts-make : goal.ghosts-make
ghosts-make a = record { layout = a.words.now.key; object = 0; call = no_attempt.call; attempt = no_attempt; own = 0; pairs = [] }
