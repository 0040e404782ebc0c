use Rattle.std.proofs.Common.{◌≡◌, drop}
use Rattle.rx_file.specs.Fields.{is_key}
use Rattle.rx_file.proofs.fields.is_key.Given as goal

abbrev pub invariant-loop-label : goal.invariant-loop-label
invariant-loop-label l = is_key (drop l.label-index l.labels) l.key ≡ is_key l.labels l.key
