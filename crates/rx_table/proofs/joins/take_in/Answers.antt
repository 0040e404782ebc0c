use Rattle.rx_table.proofs.Moves.{joins}
use Rattle.rx_table.proofs.joins.take_in.Goals as goal

pub join_seat-requires : goal.join_seat-requires
join_seat-requires c =
    let seat = rw (← c.seat.view_is) at c.requires.seat in
    let other = rw (← c.other.view_is) at c.requires.other in (
      seat.same,
      other.same,
      c.other.invariant.1,
      c.requires.words,
      joins c.args.words.now.key c.seat.inside.token.id c.other.inside.token.id c.seat.inside.token.me.0 c.other.inside.token.me.0 other.keeps.known seat.owns.alive other.owns.alive other.keeps.is,
    )
