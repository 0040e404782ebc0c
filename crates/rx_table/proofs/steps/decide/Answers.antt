use Rattle.rx_table.proofs.Stepping.{allows_decide}
use Rattle.rx_table.proofs.steps.decide.Goals as goal

pub compare_exchange-requires : goal.compare_exchange-requires
compare_exchange-requires g c = (
  c.requires.own.0,
  c.requires.own.1,
  rw (← c.requires.told.2, ← c.requires.told.3, c.requires.told.0) (allows_decide c.args.words.now.key c.args.words.now.table_id.slots c.args.seat.now.id c.args.seat.now.me c.requires.decision.1 g.J.Told.attempt c.args.new g.J.Told.pairs c.requires.decision.0),
)
