-- The statuses of a call of the program.
use Rattle.std.specs.Prelude.{ℕ}
use Rattle.rx_io.specs.declared.status.Status.{Status}
use Rattle.rx_io.specs.declared.status.Status.TheVariants.{Done, Adverse, Words, ReadFault, TooLarge, NotToml, BadSet, WriteFault, NoMemory, Wide, Long}

-- the exit code of a status
abbrev pub code_of : Status → ℕ
code_of Done = 0
code_of Adverse = 1
code_of Words = 2
code_of ReadFault = 3
code_of TooLarge = 4
code_of NotToml = 5
code_of BadSet = 6
code_of WriteFault = 7
code_of NoMemory = 8
code_of Wide = 9
code_of Long = 10
