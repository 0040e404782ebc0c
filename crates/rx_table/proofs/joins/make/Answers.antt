use Rattle.rx_table.proofs.Moves.{splits}
use Rattle.rx_table.proofs.joins.make.Goals as goal

pub split_seat-requires : goal.split_seat-requires
split_seat-requires g c = (
  c.requires.own.0,
  c.requires.own.1,
  rw (c.requires.told) (splits c.args.words.now.key c.args.seat.now.id c.requires.next.0.number c.args.seat.now.me.0 c.requires.next.1 c.requires.next.0.is c.requires.next.0.room),
)
