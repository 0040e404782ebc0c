use Rattle.rx_report.proofs.buffers.LineBuffer.make_entry.Goals as goal

pub make_line-requires : goal.make_line-requires
make_line-requires c = rw c.words.ensures c.requires
