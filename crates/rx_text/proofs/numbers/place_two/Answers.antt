use Rattle.std.proofs.Common.{◌+◌, ◌/◌, ◌%◌, ◌<◌, ◌≡◌, length, length-set, set, arith}
use Rattle.rx_text.proofs.Placing.{placed_byte, placed_then}
use Rattle.rx_text.proofs.Digits.{pair_of}
use Rattle.rx_text.proofs.numbers.place_two.Goals as goal

pub returns : goal.returns
returns c =
    let pair = pair_of c.args.n c.requires.digits in
    let bytes = c.args.bytes.now in
    let at = c.args.at in
    let e : at + 1 + 1 ≡ at + 2 = omega arith in
    let inside : at + 1 < length (set bytes at (48 + c.args.n / 10)) = omega (arith, length-set bytes at (48 + c.args.n / 10)) in
    rw (pair.0, pair.1, ← e) (placed_then (placed_byte bytes at (48 + c.args.n / 10) (omega arith)) (placed_byte (set bytes at (48 + c.args.n / 10)) (at + 1) (48 + c.args.n % 10) inside))
