use Rattle.std.proofs.Common.{◌<◌, length, ap, arith}
use Rattle.std.proofs.lemmas.List.{length-map}
use Rattle.rx_io.proofs.Puts.{puts_cut, takes_next}
use Rattle.rx_set.specs.View.{row_of}
use Rattle.rx_trace.specs.Tests.{rank_line_after}
use Rattle.rx_trace.proofs.Lines.{numbered_around, numbered_next}
use Rattle.rx_top.proofs.admits.put_ranks.Goals as goal

pub returns-in_err-put_rank : goal.returns-in_err-put_rank
returns-in_err-put_rank g c =
    let inside : c.loop-place.place < length c.args.set.now.tasks = omega (arith, ap length c.tasks-place-end.ensures.rows, length-map c.tasks-place-end.result.now row_of) in
    puts_cut _ _ _ _ _ _ _ _ c.from_residual.ensures.0 c.loop-place.invariant.taken c.in_err-put_rank.ensures
    (numbered_around (rank_line_after c.args.set.now) c.loop-place.place (length c.args.set.now.tasks) inside).1

pub loop-place-preserved : goal.loop-place-preserved
loop-place-preserved g c = record {
  taken = takes_next _ _ _ _ _ _ c.loop-place.invariant.taken c.in_ok-put_rank.ensures (numbered_next (rank_line_after c.args.set.now) c.loop-place.place);
}
