use Rattle.rx_top.proofs.Sharing.{history_parts}
use Rattle.rx_io.proofs.Puts.{puts_after, puts_cut_first, puts_same}
use Rattle.rx_top.proofs.lanes.put_history.Goals as goal

pub returns-in_err-put_entries : goal.returns-in_err-put_entries
returns-in_err-put_entries g c =
    puts_cut_first _ _ _ _ _ _ c.from_residual.ensures.0 c.in_err-put_entries.ensures (history_parts c.args.set.now c.args.entries.now c.args.closed.now.history c.requires.ends)

pub returns : goal.returns
returns g c =
    puts_same _ _ _ _ _ (history_parts c.args.set.now c.args.entries.now c.args.closed.now.history c.requires.ends)
    (puts_after _ _ _ _ _ _ c.in_ok-put_entries.ensures c.put_end.ensures)
