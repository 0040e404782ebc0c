use Rattle.rx_table.proofs.Stepping.{allows_begin}
use Rattle.rx_table.proofs.steps.begin.Goals as goal

pub load-requires : goal.load-requires
load-requires g c = (
  c.requires.own.0,
  c.requires.own.1,
  rw (c.requires.told.0, c.requires.told.1, c.requires.told.2) (allows_begin c.args.words.now.key c.args.words.now.table_id.slots c.args.seat.now.id c.args.seat.now.me c.requires.exists.2 c.args.object c.args._call c.requires.exists.0 c.requires.exists.1),
)
