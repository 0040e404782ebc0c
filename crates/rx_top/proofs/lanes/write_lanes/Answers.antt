use Rattle.std.proofs.Common.{◌∙◌, refl}
use Rattle.rx_io.proofs.Puts.{puts_after, puts_cut_first}
use Rattle.rx_top.proofs.lanes.write_lanes.Goals as goal

pub returns-in_err-put : goal.returns-in_err-put
returns-in_err-put g c = puts_cut_first _ _ _ _ _ _ c.from_residual.ensures.0 (rw (c.as_slice.ensures.value ∙ c.lanes_line.ensures) at c.in_err-put.ensures) refl

pub returns : goal.returns
returns g c = puts_after _ _ _ _ _ _ (rw (c.as_slice.ensures.value ∙ c.lanes_line.ensures) at c.in_ok-put.ensures) c.put_history.ensures
