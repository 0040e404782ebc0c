use Rattle.std.proofs.Common.{◌∙◌, sym, arith}
use Rattle.rx_shape.specs.Versions.{traded}
use Rattle.rx_shape.proofs.Local.{stock_many}
use Rattle.rx_shape.proofs.laws.trades_keep_places.Goals as goal

pub returns-clause-places : goal.returns-clause-places
returns-clause-places c home call root new own words pairs makes apart place = let p = makes.places place in let a = apart place in (p, omega arith)

pub returns-clause-many : goal.returns-clause-many
returns-clause-many c home call root new own words pairs makes stock = stock_many home (traded own pairs) makes.stock ∙ sym (stock_many home own stock)
