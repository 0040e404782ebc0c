use Rattle.rx_seq.specs.declared.calls.Call.TheVariants.{Take, Insert, Remove}
use Rattle.rx_seq.proofs.Kept.{state_kept, rows_fit}
use Rattle.rx_seq.proofs.objects.apply.Goals as goal

pub returns-in-Take-clause-again : goal.returns-in-Take-clause-again
returns-in-Take-clause-again c =
    rw c.take.ensures.state (state_kept c.args.part c.args.state.now.items Take c.requires.state (rw c.in-Take.is at c.requires.fits))

pub returns-in-Insert-clause-again : goal.returns-in-Insert-clause-again
returns-in-Insert-clause-again c =
    rw c.insert.ensures.state (state_kept c.args.part c.args.state.now.items (Insert c.in-Insert.k) c.requires.state (rw c.in-Insert.is at c.requires.fits))

pub returns-in-Remove-clause-again : goal.returns-in-Remove-clause-again
returns-in-Remove-clause-again c =
    rw c.remove.ensures.state (state_kept c.args.part c.args.state.now.items (Remove c.in-Remove.k) c.requires.state (rw c.in-Remove.is at c.requires.fits))

pub transact-requires : goal.transact-requires
transact-requires c =
    rows_fit c.args.part.kind c.args.part.cap c.args.state.now.items c.in-Multi.count c.in-Multi.rows c.requires.state (rw c.in-Multi.is at c.requires.fits)
