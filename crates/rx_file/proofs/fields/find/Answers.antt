use Rattle.toml.proofs.Views.{table_get}
use Rattle.rx_file.proofs.fields.find.Goals as goal

pub returns : goal.returns
returns c =
    let found = table_get c.get.result c.key.result.now c.args.row.now.entries c.get.ensures.value in
    rw (← c.key.ensures) found
