use Rattle.std.proofs.Common.{◌++◌, length, ap, ◌∙◌, arith}
use Rattle.rx_machine.proofs.Collecting.{own_many, when_ok}
use Rattle.rx_machine.proofs.machine_states.collect.Goals as goal

pub returns-then-not-is_empty : goal.returns-then-not-is_empty
returns-then-not-is_empty g c =
    let many = own_many (g.P.Port.layout c.args.port.now) (g.P.Port.view c.args.port.now c.args.seat.now) c.args.object (g.met.P.Port.owns_well c.args.port.now c.args.seat.now c.requires.ours) c.requires.exists in
    let none = ap length c.clear.ensures in
    let all = ap length c.owned-owned.ensures in
    let few = c.requires.few in
    when_ok c.try_extend_from_slice-all.result _ (c.try_extend_from_slice-all.ensures.variant.1 (omega arith)) c.try_extend_from_slice-all.ensures.ok ∙ (λ j. c.clear.ensures j ++ c.owned-owned.ensures j)
