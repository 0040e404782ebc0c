use Rattle.std.proofs.lemmas.Map.Text.{btree_map_updates_str}
use Rattle.rx_file.proofs.Found.{index_next}
use Rattle.rx_file.proofs.names.NameIndex.push.Goals as goal

pub returns-in-Ok-clause-index : goal.returns-in-Ok-clause-index
returns-in-Ok-clause-index c names index free place =
    index_next c.args.self.now (record { places = c.insert.new.self }) names c.args.name.now c.args.place
    (btree_map_updates_str c.args.name.now c.args.self.now.places c.insert.new.self _ c.in-Ok.ensures.updates) index free place
