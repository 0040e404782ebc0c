use Rattle.std.proofs.Common.{◌≡◌, ◌+◌, ap, arith, rules, length, length-take-le, take-add, take-append-drop}
use Rattle.std.proofs.lemmas.List.{take_rest}
use Rattle.rx_text.proofs.Placing.{placed_then}
use Rattle.rx_text.proofs.texts.place_long.Goals as goal

pub loop-done-preserved : goal.loop-done-preserved
loop-done-preserved c =
    let text = c.args.text.now in
    let done = c.loop-done.done in
    let both = placed_then c.loop-done.invariant.1 (rw (take_rest text done) at c.place_front.ensures) in
    let end : c.place_front.result ≡ c.args.at + (done + 32) = omega (arith, both.moved, ap length (take-add done 32 text), length-take-le (done + 32) text (search rules)) in
    (search rules, rw (take-add done 32 text, ← end) both)

pub returns : goal.returns
returns c =
    let text = c.args.text.now in
    let done = c.loop-done.done in
    rw (take-append-drop done text) at (placed_then c.loop-done.invariant.1 (rw (take_rest text done) at c.place_ends.ensures))
