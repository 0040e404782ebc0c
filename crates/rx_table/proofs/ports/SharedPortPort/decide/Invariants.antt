use Rattle.rx_table.specs.Rule.{no_attempt, attempt_in}
use Rattle.rx_table.proofs.ports.SharedPortPort.decide.Given as goal

abbrev pub ghosts-decide : goal.ghosts-decide
ghosts-decide a = record { layout = a.words.now.key; object = 0; call = no_attempt.call; attempt = attempt_in a.seat.now.me.0.attempt; own = 0; pairs = a._pairs.now }
