use Rattle.std.proofs.Common.{◌≡◌, length, map, rules, None}
use Rattle.std.proofs.lemmas.List.{length-map}
use Rattle.rx_set.specs.Valid.{object_name}
use Rattle.rx_set.specs.View.{object_row}
use Rattle.rx_file.specs.Fields.{place_of}
use Rattle.rx_file.proofs.Found.{index_rows, none_is_no_place}
use Rattle.rx_file.proofs.objects.Objects.with.Goals as goal

pub invariant_of-result : goal.invariant_of-result
invariant_of-result c =
    let names = map object_name (map object_row c.self.inside.rows.items) in
    let free : place_of names c.args.object.name.now ≡ None = none_is_no_place names c.args.object.name.now (rw c.self.view_is c.requires.new) in
    let last : c.len.result ≡ length names = simp length-map (search rules) in
    index_rows object_name object_row c.push.new.self c.self.inside.rows.items _ _ _ c.in-Ok.ensures.items c.name_of.ensures
    (rw c.as_bytes.ensures.value at c.in_ok-push.ensures.index names c.self.invariant free last)
