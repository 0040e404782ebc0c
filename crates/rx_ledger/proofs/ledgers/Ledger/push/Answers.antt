use Rattle.std.proofs.Common.{subst, sym}
use Rattle.std.specs.Prelude.{is_ok}
use Rattle.rx_ledger.specs.Ledgers.{InOrder, MayFollow}
use Rattle.rx_ledger.proofs.Orders.{pushed_or_not}
use Rattle.rx_ledger.proofs.ledgers.Ledger.push.Goals as goal

pub invariant_of-self : goal.invariant_of-self
invariant_of-self c =
    subst InOrder (sym c.push.ensures.items)
    (pushed_or_not c.self.inside.events.items c.args.event (is_ok c.push.result) c.self.invariant
    (subst (λ events. MayFollow events c.args.event) (sym c.self.view_is) c.requires))
