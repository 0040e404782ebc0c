use Rattle.std.proofs.Common.{refl}
use Rattle.rx_port.proofs.Lawfully.{begun_lawful, read_lawful, write_lawful, decided_lawful}
use Rattle.rx_port.proofs.laws.events_keep_the_law.Goals as goal

pub returns-clause-begin : goal.returns-clause-begin
returns-clause-begin c layout words views history seat object root call view h at alive there fits is = begun_lawful layout words views history seat view object call root h at alive there fits is

pub returns-clause-read : goal.returns-clause-read
returns-clause-read c layout words views history seat place view attempt h at alive is_open = read_lawful layout words views history seat view attempt _ h at alive is_open refl

pub returns-clause-write : goal.returns-clause-write
returns-clause-write c layout words views history seat own value view attempt h at alive is_open below new = write_lawful layout words views history seat view attempt _ h at alive is_open below new

pub returns-clause-decide : goal.returns-clause-decide
returns-clause-decide c layout words views history seat new found view attempt pairs h at alive is d = decided_lawful layout words views history seat view attempt new found pairs h at alive is d
