use Rattle.std.proofs.Common.{◌+◌, ◌*◌, ◌++◌, [], ◌∷◌, ℕ, List, sym, ap, ◌∙◌}
use Rattle.rx_shape.proofs.Times.{run_grows}
use Rattle.rx_port.proofs.starts.own_places.Goals as goal

pub loop-number-preserved : goal.loop-number-preserved
loop-number-preserved c = c.in-Ok.ensures.items
    ∙ ap (λ (xs : List ℕ). xs ++ (c.first_place.result + (c.args.seat + 1) * c.stock-count.result + c.loop-number.number) ∷ []) c.loop-number.invariant
    ∙ sym (run_grows (c.first_place.result + (c.args.seat + 1) * c.stock-count.result) c.loop-number.number)
