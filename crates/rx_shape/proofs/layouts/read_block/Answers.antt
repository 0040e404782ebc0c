use Rattle.std.proofs.Common.{◌+◌, ◌++◌, [], ◌∷◌, List, ℕ, length, sym, ap, ◌∙◌, arith}
use Rattle.std.specs.Prelude.{slice_index}
use Rattle.rx_shape.proofs.Times.{length-read_run}
use Rattle.rx_shape.proofs.BlockForm.{run_more}
use Rattle.rx_shape.proofs.layouts.read_block.Goals as goal

pub push-requires : goal.push-requires
push-requires c =
    let many = ap length c.loop-number.invariant ∙ length-read_run c.args.words.now (c.args.first + 1) c.loop-number.number in
    let few = c.requires.block.few in (omega arith, omega arith)

pub loop-number-preserved : goal.loop-number-preserved
loop-number-preserved c = c.push.ensures.items ∙ ap (λ (xs : List ℕ). xs ++ slice_index c.args.words.now (c.args.first + 1 + c.loop-number.number) ∷ []) c.loop-number.invariant
    ∙ sym (run_more c.args.words.now (c.args.first + 1) c.loop-number.number)
