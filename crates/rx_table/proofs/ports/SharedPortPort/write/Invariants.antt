use Rattle.std.specs.Prelude.{[]}
use Rattle.rx_table.specs.Rule.{no_attempt, attempt_in}
use Rattle.rx_table.proofs.ports.SharedPortPort.write.Given as goal

abbrev pub ghosts-write : goal.ghosts-write
ghosts-write a = record { layout = a.words.now.key; object = 0; call = no_attempt.call; attempt = attempt_in a.seat.now.me.0.attempt; own = a._own; pairs = [] }
