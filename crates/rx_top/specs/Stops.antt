-- How a call is stopped.
use Rattle.std.specs.Prelude.{Bool, Result, Ok, Err, is_ok}
use Rattle.rx_io.specs.declared.reads.ReadError.{ReadError}
use Rattle.rx_io.specs.declared.reads.ReadError.TheVariants as reading
use Rattle.rx_io.specs.declared.status.Status.{Status}
use Rattle.rx_io.specs.declared.status.Status.TheVariants.{ReadFault, WriteFault, NoMemory}
use Rattle.rx_top.specs.declared.stops.Stop.{Stop}
use Rattle.rx_top.specs.declared.stops.Stop.TheVariants.{Read, Write, Memory}

-- a reading that ended early stops the call
abbrev pub stop_of : ReadError → Stop
stop_of reading.Fault = Read
stop_of reading.Memory = Memory

-- the status of a call that was stopped
abbrev pub status_of : Stop → Status
status_of Read = ReadFault
status_of Write = WriteFault
status_of Memory = NoMemory

-- how a call with this status ended: it was stopped, or it is the status of an answer
abbrev pub ending_of : Status → Result Status Stop
ending_of ReadFault = Err Read
ending_of WriteFault = Err Write
ending_of NoMemory = Err Memory
ending_of status = Ok status

-- whether a status is that of an answer: neither of a fault nor of want of memory
abbrev pub is_answered : Status → Bool
is_answered status = is_ok (ending_of status)
