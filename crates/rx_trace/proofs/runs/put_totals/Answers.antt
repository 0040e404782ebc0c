use Rattle.std.proofs.Common.{◌∙◌}
use Rattle.rx_trace.proofs.runs.put_totals.Goals as goal

pub returns : goal.returns
returns g c = rw (c.as_slice.ensures.value ∙ c.total_line.ensures) at c.put.ensures
