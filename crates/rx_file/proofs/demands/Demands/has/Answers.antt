use Rattle.std.proofs.Common.{◌≡◌, ◌∙◌}
use Rattle.rx_file.specs.Demands.{is_named}
use Rattle.rx_file.proofs.demands.Demands.has.Goals as goal

pub returns : goal.returns
returns c =
    let named : c.contains.result ≡ is_named c.self.inside.rows.items c.args.row = c.contains.ensures ∙ rw c.named_by.ensures (c.self.invariant _) in
    rw (← c.self.view_is) named
