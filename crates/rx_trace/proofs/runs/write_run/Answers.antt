use Rattle.std.proofs.Common.{refl}
use Rattle.rx_io.proofs.Puts.{puts_after, puts_cut_first}
use Rattle.rx_trace.proofs.runs.write_run.Goals as goal

pub returns-in_err-put_test-clause-puts : goal.returns-in_err-put_test-clause-puts
returns-in_err-put_test-clause-puts g c = puts_cut_first _ _ _ _ _ _ c.from_residual.ensures.0 c.in_err-put_test.ensures refl

pub returns-clause-puts : goal.returns-clause-puts
returns-clause-puts g c = puts_after _ _ _ _ _ _ c.in_ok-put_test.ensures c.write_schedule.ensures.puts
