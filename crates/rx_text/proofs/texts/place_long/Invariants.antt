use Rattle.std.proofs.Common.{◌+◌, ◌-◌, ◌≤◌, length, take}
use Rattle.rx_text.specs.Places.{IsPlaced}
use Rattle.rx_text.proofs.texts.place_long.Given as goal

abbrev pub invariant-loop-done : goal.invariant-loop-done
invariant-loop-done l = (l.done + 32 ≤ length l.text) × IsPlaced l.fn.bytes l.bytes l.at (take l.done l.text) (l.at + l.done)

abbrev pub decreases-loop-done : goal.decreases-loop-done
decreases-loop-done l = length l.text - l.done
