use Rattle.rx_slots.proofs.Served.{served_sets}
use Rattle.rx_slots.proofs.windows.served_sets_miss_nothing.Goals as goal

pub returns : goal.returns
returns c = record { fixed = served_sets }
