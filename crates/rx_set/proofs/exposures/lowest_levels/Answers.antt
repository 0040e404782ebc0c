use Rattle.std.proofs.Common.{◌≡◌, ◌∙◌, [], ap, sym, length, arith}
use Rattle.std.proofs.lemmas.List.{length-map}
use Rattle.rx_set.specs.declared.tasks.Task.{Task}
use Rattle.rx_set.specs.System.{rank, numbers}
use Rattle.rx_set.specs.View.{object_row, system_of}
use Rattle.rx_set.proofs.Counts.{length-numbers}
use Rattle.rx_set.proofs.Exposed.{items_known, level_read, lowest_next, none_lowest}
use Rattle.rx_set.proofs.exposures.lowest_levels.Goals as goal

pub loop-task-init : goal.loop-task-init
loop-task-init c = none_lowest

pub bounds-ranks-task : goal.bounds-ranks-task
bounds-ranks-task c =
    let many : length c.args.ranks.now ≡ length c.args.tasks.now =
    ap length c.requires.ranks ∙ length-map (numbers (length c.args.tasks.now)) (rank (system_of c.args.policy c.args.objects.now c.args.tasks.now [])) ∙ length-numbers (length c.args.tasks.now) in
    omega (arith, many, c.loop-task-test.true)

pub note_changes-requires : goal.note_changes-requires
note_changes-requires c =
    items_known c.args.policy c.args.objects.now c.args.tasks.now c.requires.valid c.loop-task.task c.loop-task-test.true 16 c.index-tasks-task-in-loop-task.result c.items.result.now
    (omega (arith, c.requires.valid.few_objects, length-map c.args.objects.now object_row)) c.index-tasks-task-in-loop-task.is (c.items.ensures ∙ ap (λ (t : Task). t.body) (sym c.index-tasks-task-in-loop-task.is))

pub loop-task-preserved : goal.loop-task-preserved
loop-task-preserved c =
    lowest_next c.args.policy c.args.objects.now c.args.tasks.now c.requires.valid c.loop-task.task c.loop-task-test.true c.loop-task.lowest c.note_changes.new.lowest c.level_of-most.result c.items.result.now
    c.index-tasks-task-in-loop-task.result c.loop-task.invariant c.index-tasks-task-in-loop-task.is (c.items.ensures ∙ ap (λ (t : Task). t.body) (sym c.index-tasks-task-in-loop-task.is))
    (level_read c.args.policy c.args.objects.now c.args.tasks.now c.requires.valid c.loop-task.task c.loop-task-test.true c.args.ranks.now c.level_of-most.result c.index-tasks-task.result c.requires.ranks c.index-tasks-task.is c.level_of-most.ensures)
    c.note_changes.ensures
