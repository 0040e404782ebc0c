use Rattle.std.proofs.Common.{[], refl, sym, subst, arith}
use Rattle.rx_io.specs.declared.status.Status.TheVariants.{TooLarge}
use Rattle.rx_top.specs.Outcome.{Answer, WritesAll, WritesFront, set_answer}
use Rattle.rx_top.proofs.Endings.{too_large, writes_stopped}
use Rattle.rx_top.proofs.answers.answer_input.Goals as goal

pub returns-in_err-put : goal.returns-in_err-put
returns-in_err-put g c = (
  [],
  writes_stopped _ _ _ _ _ c.from_residual.ensures.1 (subst (λ (a : Answer). WritesFront a (g.K.Sink.tells c.args.sink.now) (g.K.Sink.tells c.put.new.sink) c.args.left.now)
      (sym (too_large (set_answer c.args.query []) c.args.input.now (omega (arith, c.if-input-gt-MOST_INPUT.true)))) (record { written = c.in_err-put.ensures; made = tt; nothing = c.requires.nothing })),
)

pub returns-then-input-gt-MOST_INPUT : goal.returns-then-input-gt-MOST_INPUT
returns-then-input-gt-MOST_INPUT g c = (
  [],
  subst (λ (a : Answer). WritesAll a (g.K.Sink.tells c.args.sink.now) (g.K.Sink.tells c.put.new.sink) c.args.left.now TooLarge)
      (sym (too_large (set_answer c.args.query []) c.args.input.now (omega (arith, c.if-input-gt-MOST_INPUT.true))))
      (record { status = refl; written = c.in_ok-put.ensures; valid = tt; made = tt; leaves = c.requires.nothing }),
)
