use Rattle.std.proofs.Common.{[], List, sym, subst, arith, ap, ◌∙◌, length}
use Rattle.rx_port.specs.declared.views.View.{View}
use Rattle.rx_port.specs.Lawful.{Lawful}
use Rattle.rx_port.proofs.Seating.{seated_lawful, length-seated}
use Rattle.rx_port.specs.Plain.{whole_of}
use Rattle.rx_port.proofs.BankSteps.{is_plain, seat_from}
use Rattle.rx_port.proofs.banks.Bank.new.Goals as goal

pub returns-clause-lawful : goal.returns-clause-lawful
returns-clause-lawful c = subst (λ (views : List View). Lawful c.args.layout c.in_ok-words.words.items views []) (sym c.in_ok-seats.ensures)
    (seated_lawful c.args.layout c.in_ok-words.words.items c.parts-parts.ensures.limits c.in_ok-words.ensures c.args.layout.seats (omega arith))

pub invariant_of-result : goal.invariant_of-result
invariant_of-result c = record {
  limits = c.parts-parts.ensures.limits;
  many = ap length c.in_ok-seats.ensures ∙ length-seated c.args.layout c.in_ok-words.words.items c.parts-parts.ensures.limits c.in_ok-words.ensures c.args.layout.seats;
  plain = is_plain c.in_ok-seats.seats.items;
  history = [];
  lawful = returns-clause-lawful c;
}

pub returns-clause-ours : goal.returns-clause-ours
returns-clause-ours c seat below = seat_from (whole_of c.args.layout c.in_ok-words.words.items c.in_ok-seats.seats.items c.default.result) (invariant_of-result c) seat
    (let many = (invariant_of-result c).many in omega arith)
