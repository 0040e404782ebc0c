use Rattle.std.proofs.Common.{◌≡◌, sym, ap, ◌∙◌, subst}
use mathlib.Core.Option.{some}
use lib.ListN.{get_elem?}
use Rattle.rx_port.specs.declared.views.View.{View}
use Rattle.rx_table.specs.Tables.{SeatView}
use Rattle.rx_table.specs.Seats.{carries}
use Rattle.rx_table.proofs.Moves.{closes}
use Rattle.rx_table.proofs.closings.finish.Goals as goal

pub record_history-requires-clause-closing : goal.record_history-requires-clause-closing
record_history-requires-clause-closing c =
    let seat = rw (← c.last.view_is) at c.requires.seat in
    let final = rw (c.requires.table.0) at c.close_with-closed.ensures.values.2 in
    rw (c.new-perch.ensures.perch.1, c.as_slice.ensures.value, c.copy_words.ensures)
    (closes c.args.layout c.last.inside.token.id c.last.inside.token.me.0 seat.keeps.known _ _ c.requires.limits seat.owns.alive seat.keeps.is final)

pub returns-clause-seats : goal.returns-clause-seats
returns-clause-seats c number joined at =
    let same = ap (λ (x : SeatView). x.view) (sym c.last.view_is) ∙ sym c.new-perch.ensures.perch.1 in
    c.record_history.ensures.carried number joined (subst (λ (v : View). get_elem? (carries v) number ≡ some joined) same at)
