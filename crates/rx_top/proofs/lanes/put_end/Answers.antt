use Rattle.std.proofs.Common.{◌∙◌, refl}
use Rattle.rx_io.proofs.Puts.{puts_after, puts_cut_first, still_up}
use Rattle.rx_top.proofs.lanes.put_end.Goals as goal

pub returns-in_err-put_objects : goal.returns-in_err-put_objects
returns-in_err-put_objects g c = puts_cut_first _ _ _ _ _ _ c.from_residual.ensures.0 (c.in_err-put_objects.ensures c.args.closed.now.history (refl, c.requires.layout.1)) refl

pub put-requires : goal.put-requires
put-requires g c = still_up _ _ _ (c.in_ok-put_objects.ensures c.args.closed.now.history (refl, c.requires.layout.1)) c.requires.up

pub returns : goal.returns
returns g c =
    puts_after _ _ _ _ _ _ (c.in_ok-put_objects.ensures c.args.closed.now.history (refl, c.requires.layout.1)) (rw (c.as_slice.ensures.value ∙ c.calls_line.ensures) at c.put.ensures)
