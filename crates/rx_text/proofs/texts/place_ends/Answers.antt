use Rattle.std.proofs.Common.{◌-◌, arith, length}
use Rattle.std.proofs.lemmas.List.{take_rest}
use Rattle.rx_text.proofs.Placing.{placed_ends}
use Rattle.rx_text.proofs.texts.place_ends.Goals as goal

pub returns : goal.returns
returns g c =
    let text = c.args.text.now in
    placed_ends text g.row.N (omega arith) c.requires.long.0 c.requires.long.1 c.place_front.ensures (rw (take_rest text (length text - g.row.N)) at c.place_front-2.ensures)
