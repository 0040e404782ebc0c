use Rattle.std.proofs.Common.{◌≡◌, length}
use Rattle.rx_report.specs.Wordings.{AreRequests}
use Rattle.rx_report.proofs.wordings.requests_of.Given as goal

abbrev pub invariant-loop-place : goal.invariant-loop-place
invariant-loop-place l = (length l.requests.items ≡ l.place) × AreRequests l.set l.task l.requests.items
