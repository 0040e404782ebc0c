use Rattle.std.specs.Prelude.{◌≡◌, ◌^◌, ◌-◌, min, take}
use Rattle.std.specs.List.{sum_by}
use Rattle.rx_bench.proofs.lanes.total.Given as goal

abbrev pub invariant-loop-lane : goal.invariant-loop-lane
invariant-loop-lane l = record {
  made : l.made ≡ min (sum_by (λ lane. lane.tally.made) (take l.lane-index l.lanes)) (2 ^ 64 - 1);
  retries : l.retries ≡ min (sum_by (λ lane. lane.tally.retries) (take l.lane-index l.lanes)) (2 ^ 64 - 1);
}
