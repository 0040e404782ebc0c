use Rattle.rx_table.proofs.closings.record_history.Goals as goal

pub load-requires : goal.load-requires
load-requires g c = (
  c.requires.perch,
  (λ n views holds at small. (
    record { entries = c.requires.closing.0 },
    tt,
    rw (c.requires.told.0, c.requires.told.1, c.requires.told.2) c.requires.closing.1,
  )),
)
