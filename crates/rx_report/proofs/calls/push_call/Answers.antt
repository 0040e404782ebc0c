use Rattle.rx_report.proofs.Found.{few_rows}
use Rattle.rx_report.proofs.calls.push_call.Goals as goal

pub push_rows-requires-clause-some : goal.push_rows-requires-clause-some
push_rows-requires-clause-some c = few_rows c.args.object.now.part c.args.call.now c.in-Multi.count c.in-Multi.rows c.in-Multi.is c.requires.fits
