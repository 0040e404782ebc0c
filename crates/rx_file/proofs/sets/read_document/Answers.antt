use Rattle.rx_file.proofs.Read.{no_text, of_text, no_document}
use Rattle.rx_file.proofs.sets.read_document.Goals as goal

pub returns-in-Err : goal.returns-in-Err
returns-in-Err c _ = no_text _ c.in-Err.ensures.cases.0

pub returns-in-Ok-table_from_str : goal.returns-in-Ok-table_from_str
returns-in-Ok-table_from_str c = of_text _ _ _ c.in-Ok.ensures.cases.0 c.in-Ok.ensures.cases.1 c.in-Ok-table_from_str.ensures.ok

pub returns-else-is_memory : goal.returns-else-is_memory
returns-else-is_memory c _ =
    no_document _ _ c.in-Ok.ensures.cases.0 c.in-Ok.ensures.cases.1 (c.in-Err-table_from_str.ensures.refused (λ memory. cc (c.is_memory.ensures.1 memory, c.if-is_memory.false)))
