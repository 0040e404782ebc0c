use Rattle.std.proofs.Common.{ℕ, ◌≡◌, ◌∙◌, ◌++◌, ◌∷◌, List, [], ap, sym, map, length, arith}
use Rattle.std.proofs.lemmas.List.{length-map}
use Rattle.rx_set.specs.declared.tasks.Task.{Task}
use Rattle.rx_set.specs.System.{rank, numbers}
use Rattle.rx_set.specs.Charges.{exposure}
use Rattle.rx_set.specs.View.{object_row, row_of, system_of}
use Rattle.rx_set.proofs.Counts.{length-numbers}
use Rattle.rx_set.proofs.Readings.{map_numbers_more, part_valid}
use Rattle.rx_set.proofs.Exposed.{exposure_is, items_known, level_read}
use Rattle.rx_set.proofs.exposures.exposures_of.Goals as goal

pub bounds-ranks-task : goal.bounds-ranks-task
bounds-ranks-task c =
    let many : length c.args.ranks.now ≡ length c.args.tasks.now =
    ap length c.requires.ranks ∙ length-map (numbers (length c.args.tasks.now)) (rank (system_of c.args.policy c.args.objects.now c.args.tasks.now [])) ∙ length-numbers (length c.args.tasks.now) in
    omega (arith, many, c.loop-task-test.true)

pub longest_exposed-requires-clause-known : goal.longest_exposed-requires-clause-known
longest_exposed-requires-clause-known c =
    items_known c.args.policy c.args.objects.now c.args.tasks.now c.requires.valid c.loop-task.task c.loop-task-test.true (length c.args.objects.now) c.index-tasks-task-in-loop-task.result c.items.result.now
    (omega arith) c.index-tasks-task-in-loop-task.is (c.items.ensures ∙ ap (λ (t : Task). t.body) (sym c.index-tasks-task-in-loop-task.is))

pub longest_exposed-requires-clause-few : goal.longest_exposed-requires-clause-few
longest_exposed-requires-clause-few c = omega (arith, c.requires.valid.few_objects, length-map c.args.objects.now object_row)

pub longest_exposed-requires-clause-valid : goal.longest_exposed-requires-clause-valid
longest_exposed-requires-clause-valid c object inside =
    part_valid (system_of c.args.policy c.args.objects.now c.args.tasks.now []) object c.requires.valid (omega (arith, inside, length-map c.args.objects.now object_row))

pub push-requires : goal.push-requires
push-requires c =
    let so_far : length c.loop-task.exposures.items ≡ c.loop-task.task =
    ap length c.loop-task.invariant ∙ length-map (numbers c.loop-task.task) (exposure (system_of c.args.policy c.args.objects.now c.args.tasks.now [])) ∙ length-numbers c.loop-task.task in
    (omega arith, omega (arith, so_far, c.loop-task-test.true, c.requires.valid.some_tasks.1, length-map c.args.tasks.now row_of))

pub loop-task-preserved : goal.loop-task-preserved
loop-task-preserved c =
    let shown = system_of c.args.policy c.args.objects.now c.args.tasks.now [] in
    let level = level_read c.args.policy c.args.objects.now c.args.tasks.now c.requires.valid c.loop-task.task c.loop-task-test.true c.args.ranks.now c.level_of-most.result c.index-tasks-task.result c.requires.ranks c.index-tasks-task.is c.level_of-most.ensures in
    let here = exposure_is c.args.policy c.args.objects.now c.args.tasks.now c.requires.valid c.loop-task.task c.loop-task-test.true c.lowest_levels-lowest.result c.level_of-most.result c.items.result.now
    c.index-tasks-task-in-loop-task.result c.lowest_levels-lowest.ensures c.index-tasks-task-in-loop-task.is (c.items.ensures ∙ ap (λ (t : Task). t.body) (sym c.index-tasks-task-in-loop-task.is)) level in
    c.push.ensures.items ∙ ap (λ (xs : List ℕ). xs ++ c.longest_exposed.result ∷ []) c.loop-task.invariant
    ∙ ap (λ (n : ℕ). map (exposure shown) (numbers c.loop-task.task) ++ n ∷ []) (c.longest_exposed.ensures ∙ here) ∙ sym (map_numbers_more (exposure shown) c.loop-task.task)
