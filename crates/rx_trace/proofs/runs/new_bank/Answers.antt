use Rattle.std.proofs.Common.{◌∙◌, length, ap, sym}
use Rattle.std.proofs.lemmas.List.{length-map}
use Rattle.rx_set.specs.View.{row_of}
use Rattle.rx_trace.proofs.NewBanks.{layout_fits, new_stands}
use Rattle.rx_trace.proofs.runs.new_bank.Goals as goal

pub new-requires : goal.new-requires
new-requires c =
    layout_fits c.args.set.now _ _ c.tasks.ensures.valid (c.as_slice.ensures.value ∙ c.parts.ensures) (sym (length-map c.tasks.result.now row_of) ∙ ap length c.tasks.ensures.rows)

pub returns-clause-bank : goal.returns-clause-bank
returns-clause-bank c =
    new_stands c.args.set.now _ _ c.in_ok-layout.layout c.new-2.result c.in_ok-layout.ensures (c.as_slice.ensures.value ∙ c.parts.ensures) (sym (length-map c.tasks.result.now row_of) ∙ ap length c.tasks.ensures.rows)
    c.new-2.ensures.layout c.new-2.ensures.lawful
