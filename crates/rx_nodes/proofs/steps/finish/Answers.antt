use Rattle.std.proofs.Common.{refl}
use Rattle.rx_nodes.proofs.Ending.{other_call, full_by, added_by, empty_by, absent_by, no_by}
use Rattle.rx_nodes.proofs.Stepping.{told_by}
use Rattle.rx_nodes.proofs.steps.finish.Goals as goal

pub add-requires-clause-full : goal.add-requires-clause-full
add-requires-clause-full c = full_by c.args.home.now c.args.call.now c.args.head c.args.nodes.now c.requires.serves c.requires.passed c.requires.end c.in-Put.is

pub add-requires-clause-addition : goal.add-requires-clause-addition
add-requires-clause-addition c = added_by c.args.home.now c.args.call.now c.args.head c.args.nodes.now c.requires.serves c.requires.passed c.requires.end c.in-Put.is

pub returns-in-Take-clause-told : goal.returns-in-Take-clause-told
returns-in-Take-clause-told c = told_by _ _ _ _ _ (c.requires.passed.lined, empty_by c.args.home.now c.args.call.now c.args.head c.args.nodes.now c.requires.serves c.requires.passed c.requires.end c.in-Take.is)

pub returns-in-Remove-clause-told : goal.returns-in-Remove-clause-told
returns-in-Remove-clause-told c = told_by _ _ _ _ _ (c.requires.passed.lined, absent_by c.args.home.now c.args.call.now c.args.head c.args.nodes.now c.requires.serves c.requires.passed c.requires.end c.in-Remove.k c.in-Remove.is)

pub returns-in_default : goal.returns-in_default
returns-in_default c =
    let other = other_call c.args.home.now.part.kind c.args.home.now.part.cap c.args.call.now c.requires.serves.form c.requires.serves.fits c.in_default.not-Put c.in_default.not-Take c.in_default.not-Insert c.in_default.not-Remove in
    record {
      told = told_by _ _ _ _ _ (c.requires.passed.lined, no_by c.args.home.now c.args.call.now c.args.head c.args.nodes.now c.requires.serves c.requires.passed c.requires.end other.0 other.1);
      taken = λ root. refl;
    }
