use Rattle.std.proofs.Common.{arith}
use Rattle.rx_file.proofs.Valid.{valid, bodies}
use Rattle.rx_file.proofs.sets.read_file.Goals as goal

pub read_demands-requires : goal.read_demands-requires
read_demands-requires c = record { bodies = bodies _ _ c.in_ok-tasks.ensures.good; few = c.in_ok-of_demands.ensures.few }

pub build-requires : goal.build-requires
build-requires c =
    rw (c.into_rows.ensures, c.into_rows-2.ensures, c.into_rows-3.ensures)
    (valid _ _ _ _ c.in_ok-objects.ensures.good c.in_ok-tasks.ensures.good c.in_ok-demands.ensures.good
    (omega (arith, c.in_ok-objects.ensures.count, c.in_ok-of_objects.ensures.few))
    (omega (arith, c.in_ok-tasks.ensures.count, c.in_ok-of_tasks.ensures.length))
    (omega (arith, c.in_ok-tasks.ensures.count, c.in_ok-of_tasks.ensures.length))
    (omega (arith, c.in_ok-demands.ensures.count, c.in_ok-of_demands.ensures.few)))
