use Rattle.rx_table.proofs.Stepping.{allows_write}
use Rattle.rx_table.proofs.steps.write.Goals as goal

pub store-requires : goal.store-requires
store-requires g c = (
  c.requires.own.0,
  c.requires.own.1,
  rw (c.requires.told.0) (allows_write c.args.words.now.key c.args.words.now.table_id.slots c.args.seat.now.id c.args.seat.now.me c.requires.open.1 g.J.Told.attempt g.J.Told.own c.args.place c.args.value c.requires.open.0 c.requires.open.2 c.requires.open.3 c.requires.told.2 c.requires.own.2),
)
