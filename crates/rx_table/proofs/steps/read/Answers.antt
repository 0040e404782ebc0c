use Rattle.rx_table.proofs.Stepping.{allows_read}
use Rattle.rx_table.proofs.steps.read.Goals as goal

pub load-requires : goal.load-requires
load-requires g c = (
  c.requires.own.0,
  c.requires.own.1,
  rw (c.requires.told) (allows_read c.args.words.now.key c.args.words.now.table_id.slots c.args.seat.now.id c.args.seat.now.me c.requires.open.1 g.J.Told.attempt c.args.place c.requires.open.0),
)
