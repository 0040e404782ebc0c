use Rattle.std.proofs.Common.{◌≢◌, Bool, true, false, refl, arith}
use Rattle.rx_io.specs.States.{MayBeCalled, failures_of}
use Rattle.rtx.proofs.answer.Goals as goal

-- a sink that is not down may be called
up_unless_down : (down : Bool) → down ≢ true → MayBeCalled (failures_of down)
up_unless_down false up = record { few = omega arith; up = refl }
up_unless_down true up = absurd (up refl)

pub finish-requires : goal.finish-requires
finish-requires g c = λ other. up_unless_down c.top-status.new.sink.down (λ is. other (c.top-status.ensures.last.sink.0 is))
