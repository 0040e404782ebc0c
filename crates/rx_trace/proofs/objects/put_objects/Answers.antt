use Rattle.std.proofs.Common.{◌<◌, length, ap, arith}
use Rattle.std.proofs.lemmas.List.{length-map}
use Rattle.rx_io.proofs.Puts.{puts_cut, takes_next}
use Rattle.rx_set.specs.View.{object_row}
use Rattle.rx_trace.specs.Report.{object_line_after}
use Rattle.rx_trace.proofs.Lines.{numbered_around, numbered_next}
use Rattle.rx_trace.proofs.objects.put_objects.Goals as goal

pub overflow_cast-object : goal.overflow_cast-object
overflow_cast-object g c = omega (arith, ap length c.objects-object-end.ensures, length-map c.objects-object-end.result.now object_row, c.tasks-tasks.ensures.valid.few_objects)

pub returns-in_err-put_object : goal.returns-in_err-put_object
returns-in_err-put_object g c = λ history stands.
    let inside : c.loop-object.object < length c.args.set.now.objects = omega (arith, ap length c.objects-object-end.ensures, length-map c.objects-object-end.result.now object_row) in
    puts_cut _ _ _ _ _ _ _ _ c.from_residual.ensures.0 (c.loop-object.invariant.taken history stands) (c.in_err-put_object.ensures history stands)
    (numbered_around (object_line_after c.args.set.now history) c.loop-object.object (length c.args.set.now.objects) inside).1

pub loop-object-preserved : goal.loop-object-preserved
loop-object-preserved g c = record {
  taken = λ history stands. takes_next _ _ _ _ _ _ (c.loop-object.invariant.taken history stands) (c.in_ok-put_object.ensures history stands) (numbered_next (object_line_after c.args.set.now history) c.loop-object.object);
}
