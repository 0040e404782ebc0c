use Rattle.rx_fixed.proofs.Grows.{need_up}
use Rattle.rx_fixed.proofs.laws.needs_grow.Goals as goal

pub returns : goal.returns
returns c = need_up
