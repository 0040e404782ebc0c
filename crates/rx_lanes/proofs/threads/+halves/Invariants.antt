use Rattle.std.proofs.Common.{◌+◌, ◌-◌, ◌*◌, length}
use Rattle.rx_lanes.proofs.threads.+halves.Given as goal

abbrev pub decreases-run_halves-first : goal.decreases-run_halves-first
decreases-run_halves-first g l = 4 * length l.front.now + 1

abbrev pub decreases-run_halves-second : goal.decreases-run_halves-second
decreases-run_halves-second g l = 4 * length l.back.now + 1

abbrev pub decreases-run_all : goal.decreases-run_all
decreases-run_all g l = 4 * length l.lanes.now

abbrev pub decreases-run_halves : goal.decreases-run_halves
decreases-run_halves g l = 4 * (length l.front.now + length l.back.now) - 1
