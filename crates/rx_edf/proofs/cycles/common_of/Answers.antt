use Rattle.std.proofs.Common.{ℕ, ◌*◌, ◌%◌, ap, sym, ◌∙◌, subst, arith}
use Rattle.std.specs.Int.{IsGcd}
use Rattle.std.proofs.Math.Nat.{pos_of_dvd_of_pos}
use Rattle.std.proofs.lemmas.Nat.Gcd.{IsGcd-from_mod}
use Rattle.rx_edf.proofs.Multiples.{common_is}
use Rattle.rx_edf.proofs.cycles.common_of.Goals as goal

pub nonzero_div-period : goal.nonzero_div-period
nonzero_div-period c = pos_of_dvd_of_pos c.gcd.ensures.0 (omega (arith, c.requires.period))

pub returns : goal.returns
returns c =
    let divisor : IsGcd c.args.cycle c.args.period c.gcd.result = IsGcd-from_mod c.args.cycle c.args.period c.gcd.result
    (subst (λ (n : ℕ). IsGcd c.args.period (c.args.cycle % n) c.gcd.result) c.from.ensures c.gcd.ensures) in
    ap (λ (n : ℕ). c.args.cycle * n) c.from-2.ensures ∙ sym (common_is c.args.cycle c.args.period c.gcd.result (omega (arith, c.requires.period)) divisor)
