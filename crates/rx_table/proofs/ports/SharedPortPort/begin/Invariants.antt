use Rattle.std.specs.Prelude.{[]}
use Rattle.rx_table.specs.Rule.{no_attempt}
use Rattle.rx_table.proofs.ports.SharedPortPort.begin.Given as goal

abbrev pub ghosts-begin : goal.ghosts-begin
ghosts-begin a = record { layout = a.words.now.key; object = a.object; call = a._call; attempt = no_attempt; own = 0; pairs = [] }
