use Rattle.rx_shape.proofs.Starts.{starts}
use Rattle.rx_shape.proofs.laws.objects_start.Goals as goal

pub returns : goal.returns
returns c layout words object limits start there = starts layout words object limits start there
