use Rattle.std.proofs.Common.{◌≡◌, subst, arith}
use Rattle.rx_io.proofs.Puts.{puts_cut, takes_next}
use Rattle.rx_io.specs.Causes.{Takes}
use Rattle.rx_top.specs.Drawn.{first_windows, window_line_after}
use Rattle.rx_trace.proofs.Lines.{numbered_around, numbered_next}
use Rattle.rx_top.proofs.draws.put_windows.Goals as goal

pub returns-in_err-put_window : goal.returns-in_err-put_window
returns-in_err-put_window g c =
    puts_cut _ _ _ _ _ _ _ _ c.from_residual.ensures.0 c.loop-place.invariant.taken c.in_err-put_window.ensures
    (numbered_around (window_line_after c.args.ledger.now) c.loop-place.place 10 (omega arith)).1

pub loop-place-preserved : goal.loop-place-preserved
loop-place-preserved g c = record {
  taken = takes_next _ _ _ _ _ _ c.loop-place.invariant.taken c.in_ok-put_window.ensures (numbered_next (window_line_after c.args.ledger.now) c.loop-place.place);
}

pub returns : goal.returns
returns g c =
    let all : c.loop-place.place ≡ 10 = omega arith in
    subst (λ k. Takes (g.K.Sink.tells c.args.sink.now) (g.K.Sink.tells c.loop-place.sink) (first_windows c.args.ledger.now k)) all c.loop-place.invariant.taken
