use Rattle.std.proofs.Common.{ap, arith, length}
use Rattle.std.proofs.lemmas.List.{length_push}
use Rattle.rx_report.specs.Wordings.{IsRequest}
use Rattle.rx_report.proofs.Words.{each_added, kept_request}
use Rattle.rx_report.proofs.wordings.requests_of.Goals as goal

pub loop-place-preserved : goal.loop-place-preserved
loop-place-preserved c =
    let before = c.loop-place.requests.items in
    let text = c.long_of.result in
    let line = c.push_set_request.new.line.items in
    let last : IsRequest c.args.set.now c.args.task (length before) text =
    rw c.loop-place.invariant.0 (kept_request c.args.set.now c.args.task c.loop-place.place text line c.long_of.ensures (rw c.clear.ensures at c.push_set_request.ensures.text) (omega (arith, ap length c.clear.ensures, c.push_set_request.ensures.few))) in
    rw c.in_ok-add_request.ensures (omega (arith, length_push before text, c.loop-place.invariant.0), each_added (IsRequest c.args.set.now c.args.task) before text c.loop-place.invariant.1 last)
