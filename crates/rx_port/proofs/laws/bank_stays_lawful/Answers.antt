use Rattle.rx_port.proofs.BankMoves.{begun_moves, read_moves, wrote_moves, decided_moves}
use Rattle.rx_port.proofs.laws.bank_stays_lawful.Goals as goal

pub returns-clause-begin : goal.returns-clause-begin
returns-clause-begin c layout old now before after object root call plain there fits event = begun_moves layout old now before after plain object call root there fits event

pub returns-clause-read : goal.returns-clause-read
returns-clause-read c layout old now before after attempt place word plain is_open event = read_moves layout old now before after plain attempt place word is_open event

pub returns-clause-write : goal.returns-clause-write
returns-clause-write c layout old now before after attempt own value plain is_open below new event = wrote_moves layout old now before after plain attempt own value is_open below new event

pub returns-clause-decide : goal.returns-clause-decide
returns-clause-decide c layout old now before after attempt new word pairs plain decision event = decided_moves layout old now before after plain attempt new word pairs decision event
