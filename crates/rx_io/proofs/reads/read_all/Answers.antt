use Rattle.std.proofs.Common.{◌≡◌, ◌<◌, ◌+◌, ◌-◌, min, length, take, length-take, subst, ◌∙◌, arith}
use Rattle.rx_io.specs.States.{Failures, SourceState}
use Rattle.rx_io.specs.Causes.{ErrCause, read_step}
use Rattle.rx_io.proofs.Calls.{calls_weaker}
use Rattle.rx_io.proofs.Reading.{handed_on, piece_consumed, piece_longer, steps_go_on, steps_known, steps_told}
use Rattle.rx_io.proofs.reads.read_all.Goals as goal

pub returns-in_err-read_piece-clause-stopped : goal.returns-in_err-read_piece-clause-stopped
returns-in_err-read_piece-clause-stopped g c =
    let asked : length (take c.min-room.result c.loop-buffer.buffer) ≡ min read_step (c.args.most + 1 - length c.loop-buffer.bytes.items) =
    omega (arith, length-take c.min-room.result c.loop-buffer.buffer, c.min-room.ensures, c.len-in-loop-buffer.ensures) in
    let b : SourceState = g.S.Source.tells c.loop-buffer.source in
    handed_on c.from_residual.result c.in_err-read_piece.field-0.0 _ c.from_residual.ensures.1 (record {
      calls = steps_told (g.S.Source.tells c.args.source.now) b (g.S.Source.tells c.read_piece.new.source) read_step (c.args.most + 1) (length c.loop-buffer.bytes.items) _ (omega (arith, asked, c.len.ensures, c.loop-buffer-test.true)) asked
          c.loop-buffer.invariant.calls c.in_err-read_piece.ensures.call;
      cause = subst (λ (f : Failures). ErrCause f (g.S.Source.tells c.read_piece.new.source).failures c.in_err-read_piece.field-0.0) c.loop-buffer.invariant.kept c.in_err-read_piece.ensures.cause;
    })

pub returns-then-branch-eq0-clause-input : goal.returns-then-branch-eq0-clause-input
returns-then-branch-eq0-clause-input g c =
    let a : SourceState = g.S.Source.tells c.args.source.now in
    let b : SourceState = g.S.Source.tells c.loop-buffer.source in
    let now : SourceState = g.S.Source.tells c.read_piece.new.source in
    let piece = c.in_ok-read_piece.ensures.piece in
    let asked : length (take c.min-room.result c.loop-buffer.buffer) ≡ min read_step (c.args.most + 1 - length c.loop-buffer.bytes.items) =
    omega (arith, length-take c.min-room.result c.loop-buffer.buffer, c.min-room.ensures, c.len-in-loop-buffer.ensures) in
    let sum = piece_longer b now c.loop-buffer.bytes.items c.read_piece.new.bytes.items c.in_ok-read_piece.field-0 piece in record {
      taken = piece_consumed a b now c.loop-buffer.bytes.items c.read_piece.new.bytes.items c.in_ok-read_piece.field-0 c.loop-buffer.invariant.taken piece;
      few = omega (arith, sum, asked, c.in_ok-read_piece.ensures.bound, c.len.ensures, c.loop-buffer-test.true);
      end = λ few. piece.end c.if-branch-eq0.true;
      calls = steps_known a b now read_step (c.args.most + 1) (length c.loop-buffer.bytes.items) _ (omega (arith, asked, c.len.ensures, c.loop-buffer-test.true)) asked c.loop-buffer.invariant.calls c.in_ok-read_piece.field-0 (length c.read_piece.new.bytes.items) c.in_ok-read_piece.ensures.call sum;
      kept = c.in_ok-read_piece.ensures.kept ∙ c.loop-buffer.invariant.kept;
    }

pub loop-buffer-preserved : goal.loop-buffer-preserved
loop-buffer-preserved g c =
    let a : SourceState = g.S.Source.tells c.args.source.now in
    let b : SourceState = g.S.Source.tells c.loop-buffer.source in
    let now : SourceState = g.S.Source.tells c.read_piece.new.source in
    let piece = c.in_ok-read_piece.ensures.piece in
    let asked : length (take c.min-room.result c.loop-buffer.buffer) ≡ min read_step (c.args.most + 1 - length c.loop-buffer.bytes.items) =
    omega (arith, length-take c.min-room.result c.loop-buffer.buffer, c.min-room.ensures, c.len-in-loop-buffer.ensures) in
    let sum = piece_longer b now c.loop-buffer.bytes.items c.read_piece.new.bytes.items c.in_ok-read_piece.field-0 piece in record {
      few = omega (arith, sum, asked, c.in_ok-read_piece.ensures.bound, c.len.ensures, c.loop-buffer-test.true);
      taken = piece_consumed a b now c.loop-buffer.bytes.items c.read_piece.new.bytes.items c.in_ok-read_piece.field-0 c.loop-buffer.invariant.taken piece;
      calls = steps_go_on a b now read_step (c.args.most + 1) (length c.loop-buffer.bytes.items) _ (omega (arith, asked, c.len.ensures, c.loop-buffer-test.true)) asked c.loop-buffer.invariant.calls c.in_ok-read_piece.field-0 (length c.read_piece.new.bytes.items) c.in_ok-read_piece.ensures.call sum (omega (arith, c.if-branch-eq0.false));
      kept = c.in_ok-read_piece.ensures.kept ∙ c.loop-buffer.invariant.kept;
    }

pub returns-clause-input : goal.returns-clause-input
returns-clause-input g c =
    let inside : c.args.most < length c.loop-buffer.bytes.items = omega (arith, c.len.ensures, c.loop-buffer-test.false) in record {
      taken = c.loop-buffer.invariant.taken;
      few = c.loop-buffer.invariant.few;
      end = λ few. absurd (omega (arith, few, inside));
      calls = calls_weaker (g.S.Source.tells c.args.source.now).calls (g.S.Source.tells c.loop-buffer.source).calls _ _ c.loop-buffer.invariant.calls (λ calls are. (are.0, are.2));
      kept = c.loop-buffer.invariant.kept;
    }
