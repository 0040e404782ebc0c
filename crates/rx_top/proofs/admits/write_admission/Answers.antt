use Rattle.std.proofs.Common.{◌∷◌, ap, sym, append-nil, refl}
use Rattle.rx_fixed.specs.Verdicts.{verdict_of}
use Rattle.rx_report.specs.VerdictLines.{fixed_line}
use Rattle.rx_io.proofs.Puts.{puts_cut, puts_cut_first, takes_next}
use Rattle.rx_top.proofs.admits.write_admission.Goals as goal

pub returns-in_err-put_verdict-clause-puts : goal.returns-in_err-put_verdict-clause-puts
returns-in_err-put_verdict-clause-puts g c = puts_cut_first _ _ _ _ _ _ c.from_residual.ensures.0 (rw c.test-verdict.ensures.value at c.in_err-put_verdict.ensures) refl

pub returns-in_err-put_ranks-clause-puts : goal.returns-in_err-put_ranks-clause-puts
returns-in_err-put_ranks-clause-puts g c =
    puts_cut _ _ _ _ _ _ _ _ c.from_residual-in_err-put_ranks.ensures.0 (rw c.test-verdict.ensures.value at c.in_ok-put_verdict.ensures) c.in_err-put_ranks.ensures
    (ap (λ r. fixed_line (verdict_of c.args.set.now) ∷ r) (sym (append-nil _)))

pub returns-clause-puts : goal.returns-clause-puts
returns-clause-puts g c = takes_next _ _ _ _ _ _ (rw c.test-verdict.ensures.value at c.in_ok-put_verdict.ensures) c.in_ok-put_ranks.ensures refl
