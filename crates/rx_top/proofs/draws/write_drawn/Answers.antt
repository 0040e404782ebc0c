use Rattle.std.proofs.Common.{refl}
use Rattle.rx_io.proofs.Puts.{puts_after, puts_cut_first}
use Rattle.rx_top.proofs.draws.write_drawn.Goals as goal

pub returns-in_err-put_test : goal.returns-in_err-put_test
returns-in_err-put_test g c = λ ticks run. puts_cut_first _ _ _ _ _ _ c.from_residual.ensures.0 c.in_err-put_test.ensures refl

pub returns : goal.returns
returns g c = λ ticks run. puts_after _ _ _ _ _ _ c.in_ok-put_test.ensures (c.write_noted.ensures ticks run)
