use Rattle.std.proofs.Common.{◌-◌, ◌++◌, length, take, drop, sym, ap, subst, ◌∙◌, arith, length-take}
use Rattle.std.proofs.Math.Seq.{take-add}
use Rattle.std.proofs.lemmas.List.{take-take}
use Rattle.std.specs.Io.KnownBytes.{Appends}
use Rattle.std.proofs.KnownBytes.{Appends-trans}
use Rattle.rx_io.proofs.pages.write_out.Goals as goal

pub loop-at-preserved : goal.loop-at-preserved
loop-at-preserved g c =
    let at = c.loop-at.at in
    let n = c.in-Ok.count in
    let xs = c.args.bytes.now in
    let before = c.loop-at.invariant in
    let fits = c.in-Ok.ensures.bound in
    let most = length-take (length xs - at) (drop at xs) in
    let joined = ap (λ l. take at xs ++ l) (take-take n (length xs - at) (drop at xs) (omega arith)) ∙ sym (take-add at n xs) in
    (omega arith, subst (Appends _ _) joined (Appends-trans _ _ _ _ _ before.1 c.in-Ok.ensures.bytes))
