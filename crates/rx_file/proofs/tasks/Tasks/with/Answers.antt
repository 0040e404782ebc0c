use Rattle.std.proofs.Common.{◌≡◌, length, map, rules, None}
use Rattle.std.proofs.lemmas.List.{length-map}
use Rattle.rx_set.specs.Valid.{task_name}
use Rattle.rx_set.specs.View.{row_of}
use Rattle.rx_file.specs.Fields.{place_of}
use Rattle.rx_file.proofs.Found.{index_rows, none_is_no_place}
use Rattle.rx_file.proofs.tasks.Tasks.with.Goals as goal

pub invariant_of-result : goal.invariant_of-result
invariant_of-result c =
    let names = map task_name (map row_of c.self.inside.rows.items) in
    let free : place_of names c.args.task.name.now ≡ None = none_is_no_place names c.args.task.name.now (rw c.self.view_is c.requires.new) in
    let last : c.len.result ≡ length names = simp length-map (search rules) in
    index_rows task_name row_of c.push.new.self c.self.inside.rows.items _ _ _ c.in-Ok.ensures.items c.name_of.ensures
    (rw c.as_bytes.ensures.value at c.in_ok-push.ensures.index names c.self.invariant free last)
