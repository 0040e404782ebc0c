use Rattle.std.proofs.Common.{◌<◌, ◌∙◌, length, refl, arith}
use Rattle.rx_io.specs.States.{SinkState}
use Rattle.rx_io.proofs.Puts.{put_calls, put_more, put_refused, put_within, puts_failed, slice_some}
use Rattle.rx_io.proofs.writes.put.Goals as goal

pub returns-in_err-at : goal.returns-in_err-at
returns-in_err-at g c =
    let inside : c.loop-at.at < length c.args.piece.now = omega (arith, c.loop-at-test.true) in
    puts_failed _ _ c.from_residual.result _ c.from_residual.ensures.0
    (put_refused (g.K.Sink.tells c.args.sink.now) (g.K.Sink.tells c.loop-at.sink) (g.K.Sink.tells c.write.new.self) c.loop-at.at _ c.args.piece.now inside refl
    c.loop-at.invariant.bytes c.in_err-at.ensures.bytes c.loop-at.invariant.calls c.in_err-at.ensures.call c.loop-at.invariant.kept c.in_err-at.ensures.refusal c.in_err-at.ensures.cause.failed)

pub loop-at-preserved : goal.loop-at-preserved
loop-at-preserved g c =
    let a : SinkState = g.K.Sink.tells c.args.sink.now in
    let b : SinkState = g.K.Sink.tells c.loop-at.sink in
    let now : SinkState = g.K.Sink.tells c.write.new.self in
    let inside : c.loop-at.at < length c.args.piece.now = omega (arith, c.loop-at-test.true) in record {
      within = put_within c.loop-at.at c.in_ok-at.field-0 c.args.piece.now c.loop-at.invariant.within c.in_ok-at.ensures.bound;
      bytes = put_more a b now c.loop-at.at _ c.args.piece.now inside refl c.in_ok-at.field-0 c.loop-at.invariant.bytes c.in_ok-at.ensures.bytes;
      calls = put_calls a b now c.loop-at.at _ c.args.piece.now inside refl c.in_ok-at.field-0 (c.in_ok-at.ensures.some (slice_some c.loop-at.at c.args.piece.now inside)) c.in_ok-at.ensures.bound c.loop-at.invariant.calls c.in_ok-at.ensures.call;
      kept = c.in_ok-at.ensures.cause.kept ∙ c.loop-at.invariant.kept;
    }
